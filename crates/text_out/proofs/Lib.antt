pub mod Stored
pub mod Pages
pub mod AddedUp
pub mod Back
