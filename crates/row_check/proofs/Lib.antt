-- The laws of the walk, of the checks before it, of what is loaded for it and of what is returned.
pub mod Walks
pub mod Before
pub mod Loaded
pub mod Results
