pub mod Overlays
pub mod Pieces
pub mod Cuts
