pub mod Empties
pub mod Invariant
pub mod Search
pub mod Memory
pub mod Judging
