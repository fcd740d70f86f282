-- What the proofs of several functions use.
pub mod Words
pub mod Verdicts
pub mod Theorems
