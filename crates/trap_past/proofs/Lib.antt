pub mod Undoing
pub mod Standing
pub mod Counts
pub mod Leased
pub mod Tracing
pub mod Later
pub mod Remembering
pub mod Telling
