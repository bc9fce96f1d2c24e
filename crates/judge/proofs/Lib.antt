pub mod Shares
pub mod Memories
pub mod Judgements
