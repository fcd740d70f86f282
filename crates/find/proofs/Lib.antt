-- The laws, each file after those that it uses.
pub mod Checked
pub mod Loaded
pub mod Theorems
