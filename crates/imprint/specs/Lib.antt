pub mod Contents
pub mod Digests
pub mod Inputs
pub mod Agreeing
pub mod Laws
pub mod Samples
