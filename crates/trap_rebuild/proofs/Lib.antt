pub mod RowLemmas
mod RowSteps
mod DiskSteps
mod LeaseLemmas
