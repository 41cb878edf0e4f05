pub mod Grammar
pub mod Records
pub mod Places
pub mod Told
pub mod Tokens
pub mod Laws
