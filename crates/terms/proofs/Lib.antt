pub mod Bits
pub mod Unions
pub mod Sizes
pub mod Firsts
pub mod Lists
pub mod Made
