pub mod Refusals
pub mod Apart
