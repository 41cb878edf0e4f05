pub mod Past
pub mod Laws
