pub mod Fields
pub mod Numbers
pub mod Records
pub mod Reading
pub mod RelocationInfo
