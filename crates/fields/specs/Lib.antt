pub mod Reads
pub mod Rules
pub mod Placed
pub mod Stands
pub mod Runs
