pub mod Summary
pub mod Counting
pub mod Fitting
pub mod Reached
pub mod Stepping
pub mod Applies
pub mod History
