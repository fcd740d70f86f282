-- What the reader's function cites beside the rules.
pub mod Answers
