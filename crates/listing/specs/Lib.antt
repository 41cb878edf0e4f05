pub mod Listed
pub mod Told
pub mod Words
pub mod Pages
pub mod Samples
