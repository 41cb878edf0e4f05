pub mod Heads
pub mod Frames
pub mod Walks
pub mod Unique
pub mod Decided
pub mod Parts
pub mod Exact
