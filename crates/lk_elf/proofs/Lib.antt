pub mod Widths
pub mod Slices
pub mod Signed
pub mod Writing
pub mod LowBits
pub mod EhdrBack
pub mod ShdrBack
pub mod PhdrBack
pub mod SymBack
pub mod RelaBack
pub mod DynBack
mod Constants
mod Examples
