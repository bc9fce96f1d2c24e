pub mod Tables
pub mod Cases
pub mod Exact
pub mod Layers
