pub mod Formed
pub mod Lies
pub mod Laws
