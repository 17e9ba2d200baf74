pub mod Objects
pub mod Scans
pub mod ObjectLaws
