-- The demands, the check of rows, and the wrong programs that the contracts refute.
pub mod Demands
pub mod Wrong
pub mod RowCheck
pub mod WrongRows
pub mod Results
