pub mod Kept
pub mod Coverings
pub mod FreeRows
pub mod TableLaws
pub mod Hearing
