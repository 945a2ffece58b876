pub mod Hexes
pub mod FrameTexts
pub mod Captures
