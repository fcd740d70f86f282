-- The laws, each file after those that it uses.
pub mod Filled
pub mod Breadth
pub mod Loaded
pub mod Verdict
