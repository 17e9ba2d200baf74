pub mod NumbersBelow
pub mod SlotsPut
pub mod MaskedRuns
pub mod ScheduledTasks
pub mod ReachedStates
pub mod RunsSettled
