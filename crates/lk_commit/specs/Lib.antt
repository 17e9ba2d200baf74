pub mod CrashStates
pub mod Stages
