pub mod Steps
pub mod Counting
pub mod Tags
pub mod Standing
pub mod Links
pub mod Places
pub mod Runs
