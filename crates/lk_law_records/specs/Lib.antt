pub mod Recordable
pub mod CommandFits
pub mod RecordedLaws
