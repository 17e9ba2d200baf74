pub mod ChangesKept
pub mod Entries
mod Examples
