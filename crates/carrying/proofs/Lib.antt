pub mod Breaking
