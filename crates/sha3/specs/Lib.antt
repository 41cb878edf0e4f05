pub mod Examples
pub mod Keccak
pub mod Pad
pub mod Sha3
pub mod States
pub mod Streams
pub mod Tables
pub mod Turned
