pub mod Inside
pub mod Listing
pub mod Held
pub mod Signing
pub mod Filing
pub mod Ruling
pub mod Limiting
pub mod Forming
