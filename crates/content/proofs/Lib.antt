pub mod Joining
pub mod Filling
pub mod Lying
