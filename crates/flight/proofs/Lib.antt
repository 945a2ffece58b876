pub mod MarkLaws
pub mod Orders
pub mod Hearings
pub mod Spoken
pub mod Executing
pub mod FirstOrder
