pub mod Arguments
pub mod Notices
pub mod Reasons
