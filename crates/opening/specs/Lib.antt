pub mod Numbers
pub mod Outcome
pub mod Laws
