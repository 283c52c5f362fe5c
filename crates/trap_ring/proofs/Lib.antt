pub mod Offsets
pub mod Appending
pub mod Getting
pub mod Counting
