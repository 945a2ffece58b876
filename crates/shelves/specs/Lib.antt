pub mod Lengths
pub mod Rows
pub mod Shelves
