pub mod Putting
pub mod Getting
