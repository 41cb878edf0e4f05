pub mod Bytes
pub mod Numbers
pub mod Parts
pub mod Plains
pub mod Read
pub mod Took
pub mod TookAll
