pub mod XorLemmas
pub mod OverLemmas
pub mod ZeroLemmas
pub mod LaneLemmas
pub mod ScanLemmas
pub mod Cuts
