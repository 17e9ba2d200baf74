pub mod Gathered
pub mod PatchedBytes
