pub mod Filled
pub mod Covering
