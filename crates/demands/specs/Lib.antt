-- What a call was handed, returned and left, tied to the contract of its function.
pub mod Calls
