pub mod FrontChecks
pub mod Readings
