-- What the contracts of the tests of one row cite, and those of the row check above them.
pub mod Says
pub mod Against
pub mod Marks
