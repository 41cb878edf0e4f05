pub mod Stepping
pub mod Inverse
