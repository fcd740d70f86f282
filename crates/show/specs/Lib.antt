-- What the programs' contract cites.
pub mod Numbers
