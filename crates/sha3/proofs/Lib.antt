pub mod Bits
pub mod Chaining
pub mod Endings
pub mod Keeping
pub mod Linear
pub mod Steps
pub mod Twists
