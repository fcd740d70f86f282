-- The law of what the writer counts.
pub mod Sheets
