pub mod Bytes
pub mod Notes
pub mod Frames
pub mod Lines
