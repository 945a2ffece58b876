pub mod Rows
pub mod InTurn
pub mod Causes
pub mod Charts
pub mod Examples
