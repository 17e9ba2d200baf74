pub mod Runs
pub mod LoadFaults
pub mod LoadedImages
pub mod HeaderRows
pub mod Gathering
pub mod NamedTables
