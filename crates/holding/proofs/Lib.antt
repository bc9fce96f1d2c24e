pub mod Holders
pub mod Bounds
pub mod Most
