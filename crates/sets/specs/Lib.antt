pub mod Sets
pub mod Quorums
pub mod Ascending
