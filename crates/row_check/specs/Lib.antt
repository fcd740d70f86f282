-- What the row check's contracts cite beside the rules.
pub mod Answers
