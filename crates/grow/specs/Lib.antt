pub mod Frames
pub mod Splices
pub mod Changes
