pub mod Appended
pub mod Listed
pub mod Laws
