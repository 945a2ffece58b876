pub mod Apart
pub mod Words
