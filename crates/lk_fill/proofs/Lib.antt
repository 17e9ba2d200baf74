pub mod Rising
pub mod GapBytes
pub mod CoveredBytes
pub mod HolesFound
pub mod Collected
pub mod HolesFilled
pub mod HolesWritten
pub mod RowsWritten
