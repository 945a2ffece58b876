pub mod Words
pub mod Layouts
pub mod Kinds
pub mod AnyKind
pub mod Texts
pub mod Examples
pub mod KindLaws
pub mod LayoutsLemmas
