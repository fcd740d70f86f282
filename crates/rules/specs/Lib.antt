-- The definitions: what a sheet, a place, a try, a partial placement and an answer are.
pub mod Sheet
pub mod Live
pub mod Checks
pub mod Graph
pub mod Place
pub mod Candidates
pub mod Tries
pub mod Partials
pub mod Answer
pub mod Calls
pub mod RowCheck
pub mod Benches
