-- What the sheet's functions cite beside the rules.
pub mod Fields
pub mod Check
