pub mod Pairs
pub mod Model
pub mod Changes
pub mod Fits
pub mod Layer
