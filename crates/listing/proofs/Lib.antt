-- The law of a reader with room for any sheet.
pub mod Room
