pub mod Answering
pub mod Performed
pub mod Printed
pub mod Tallying
