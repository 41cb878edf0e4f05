pub mod Kinds
pub mod Offsets
pub mod Limits
pub mod Attributes
pub mod Forms
pub mod Standing
pub mod Signers
pub mod Letters
