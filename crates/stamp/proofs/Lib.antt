pub mod Links
pub mod CarriedTrees
pub mod Indexing
pub mod Holding
pub mod Exact
pub mod Bare
