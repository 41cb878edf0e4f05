pub mod Unbroken
pub mod Signing
pub mod Filing
pub mod Keeping
pub mod Single
