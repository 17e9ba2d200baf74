pub mod Filling
pub mod FreeBytes
pub mod FreeLists
pub mod Placing
pub mod TakingBack
pub mod FreeLaws
