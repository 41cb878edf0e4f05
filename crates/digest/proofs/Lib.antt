pub mod Taking
pub mod Cuts
