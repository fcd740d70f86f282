-- The laws, each file after those that it uses.
pub mod Lists
pub mod Kept
pub mod Masks
