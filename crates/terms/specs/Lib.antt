pub mod Sets
pub mod Refusals
pub mod Firsts
pub mod Lists
