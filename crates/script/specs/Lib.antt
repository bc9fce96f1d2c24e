pub mod Entries
pub mod Lines
pub mod Listing
pub mod Literals
pub mod Printing
pub mod Words
