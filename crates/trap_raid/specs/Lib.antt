pub mod Condition
pub mod Members
pub mod OwnDisk
pub mod Standing
pub mod Reads
pub mod Plan
pub mod Draining
