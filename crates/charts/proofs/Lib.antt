pub mod TurnLaws
pub mod RowLaws
pub mod RowTests
pub mod Padding
pub mod CauseLaws
pub mod WorkedSizes
pub mod Ranges
