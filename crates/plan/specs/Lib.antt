pub mod Order
pub mod Limits
pub mod Authority
pub mod Refusing
pub mod Adding
pub mod History
pub mod Enforcing
