pub mod NoteLaws
pub mod FrameLaws
pub mod LineLaws
