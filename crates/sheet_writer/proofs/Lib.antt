-- What the proofs of several functions use.
pub mod Pens
pub mod Lines
pub mod Writing
pub mod Theorems
