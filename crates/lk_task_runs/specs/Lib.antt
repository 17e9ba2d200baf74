pub mod Below
pub mod Phases
pub mod Turns
pub mod Orders
pub mod Runs
pub mod TaskLaws
