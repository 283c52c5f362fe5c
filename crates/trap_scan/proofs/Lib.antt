pub mod Fronts
pub mod Taking
pub mod Chains
pub mod ChainLaws
pub mod Standing
pub mod Windows
