pub mod Seniority
pub mod Tables
pub mod Histories
pub mod Holdings
