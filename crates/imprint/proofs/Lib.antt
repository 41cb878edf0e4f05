pub mod Choosing
pub mod Finding
pub mod Few
