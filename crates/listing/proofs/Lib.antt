pub mod Headers
pub mod Turns
pub mod Ends
pub mod Texts
pub mod Pinned
