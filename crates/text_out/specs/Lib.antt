pub mod Written
pub mod Stores
pub mod Tables
pub mod Pages
