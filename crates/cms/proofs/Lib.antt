pub mod Readings
pub mod SignerLinks
pub mod MessageLinks
pub mod RecordPlaces
pub mod Served
