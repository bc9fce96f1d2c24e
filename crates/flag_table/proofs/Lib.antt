pub mod Words
pub mod Marks
