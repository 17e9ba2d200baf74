pub mod Answers
pub mod Machines
pub mod Jobs
pub mod MachineParts
pub mod Calls
