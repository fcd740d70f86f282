-- General definitions: words on lists and on masks that every crate above uses.
pub mod Lists
pub mod Masks
