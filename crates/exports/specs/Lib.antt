-- What the exported functions cite beside the rules.
pub mod Answers
