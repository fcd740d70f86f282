-- The law of the number that comes back.
pub mod Numbers
