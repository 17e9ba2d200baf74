pub mod Seen
pub mod Sweeps
