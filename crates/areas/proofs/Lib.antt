pub mod Joins
pub mod Overlays
pub mod Cuts
