pub mod Flags
pub mod Sound
