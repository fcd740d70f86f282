-- What the patch tables hold, as they are read.
pub mod Tables
