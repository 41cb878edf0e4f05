pub mod Overlays
pub mod Plugs
pub mod Turns
pub mod Sizes
pub mod Rewraps
pub mod Fits
pub mod Inserts
