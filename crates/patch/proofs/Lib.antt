-- What the proofs of several functions use, each file after those that it uses.
pub mod Runs
pub mod Held
