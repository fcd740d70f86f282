-- What the contracts of a text's sheet, of its lines and of its refusals cite.
pub mod Faults
pub mod Lines
pub mod Sheets
