pub mod Targets
pub mod SymbolTargets
pub mod ReferralFaults
pub mod ReferralNeeds
pub mod Noted
pub mod Scans
pub mod LinkScans
pub mod ScanStatuses
