pub mod Composed
pub mod Headed
pub mod Framing
pub mod Heads
pub mod Fronts
pub mod Taken
pub mod Laws
pub mod Leading
