pub mod FilesState
pub mod Crashes
pub mod Disk
pub mod Counts
pub mod FilesInMemory
pub mod DeviceInMemory
pub mod SinkInMemory
pub mod Host
