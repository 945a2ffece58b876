pub mod Passing
pub mod Relays
pub mod Steps
pub mod Charts
pub mod Toils
