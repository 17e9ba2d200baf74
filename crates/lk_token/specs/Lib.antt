pub mod TokenStates
