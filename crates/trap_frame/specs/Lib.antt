pub mod Headers
pub mod Filling
pub mod Reading
