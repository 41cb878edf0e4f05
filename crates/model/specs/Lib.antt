pub mod Parts
pub mod Files
pub mod Shapes
pub mod Laws
