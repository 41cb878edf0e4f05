pub mod Lists
pub mod Unmatched
pub mod Rows
pub mod Laws
