-- What the proofs of several functions use.
pub mod Stores
pub mod Reading
pub mod Theorems
