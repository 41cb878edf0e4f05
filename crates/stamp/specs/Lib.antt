pub mod Grammar
pub mod Records
pub mod Places
pub mod Indexed
pub mod Stamped
pub mod Laws
