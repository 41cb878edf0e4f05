pub mod Made
pub mod Exact
pub mod Lying
pub mod SignerParts
pub mod Levels
