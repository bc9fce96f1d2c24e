pub mod Drafts
pub mod Latest
pub mod Ends
pub mod Turns
