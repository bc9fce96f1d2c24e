pub mod Listing
pub mod Refusing
pub mod Records
pub mod Laws
