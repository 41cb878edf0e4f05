pub mod Numbers
pub mod Algorithms
pub mod Indexes
pub mod Tokens
pub mod Stamps
pub mod Covering
pub mod Later
pub mod Laws
