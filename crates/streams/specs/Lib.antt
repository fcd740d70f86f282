-- What the contracts of what is read into lent bytes cite.
pub mod Counts
