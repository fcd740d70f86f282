-- The laws, each file after those that it uses; the row check above uses `Says` and `Rows` too.
pub mod Says
pub mod Used
pub mod Ends
pub mod Places
pub mod Rows
pub mod Marks
