pub mod Indexed
pub mod Keeping
pub mod Counting
pub mod Describes
