pub mod Breaking
pub mod Carrying
