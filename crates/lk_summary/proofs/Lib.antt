pub mod FaultsFirst
pub mod KindsKnown
