pub mod Links
pub mod Lies
pub mod InfoTrees
pub mod Telling
pub mod Holding
pub mod Exact
