pub mod Holding
pub mod Tables
pub mod Search
