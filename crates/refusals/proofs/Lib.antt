pub mod FirstCause
pub mod ToldApart
