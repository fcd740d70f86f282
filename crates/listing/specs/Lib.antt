-- What the contract of a sheet's text cites.
pub mod Said
