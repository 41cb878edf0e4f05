pub mod Reading
pub mod SignerReading
pub mod Lying
