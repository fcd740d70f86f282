-- What the writer's functions cite beside the rules.
pub mod Answers
pub mod Pen
pub mod Writing
