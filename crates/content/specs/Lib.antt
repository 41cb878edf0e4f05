pub mod Segments
pub mod Contents
pub mod Sources
pub mod Few
pub mod Laws
