pub mod SlotsTaken
pub mod SlotsPresent
pub mod Histories
pub mod MachineSteps
pub mod MachineCalls
