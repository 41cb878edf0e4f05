pub mod Behind
pub mod Signing
pub mod Filing
pub mod Keeping
