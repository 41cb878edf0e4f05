pub mod Numbers
pub mod Accepted
pub mod Outcome
pub mod Steps
pub mod Laws
pub mod Opened
pub mod Texts
