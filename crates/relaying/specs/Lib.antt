pub mod States
pub mod Invariants
pub mod Laws
pub mod Distinct
pub mod Toil
pub mod Gains
