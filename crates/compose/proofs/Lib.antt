pub mod Sizes
pub mod Joining
pub mod Encoding
pub mod Carrying
pub mod Taken
