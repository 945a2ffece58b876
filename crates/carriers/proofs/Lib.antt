pub mod Opening
pub mod Starting
