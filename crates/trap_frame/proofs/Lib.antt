pub mod Headers
pub mod Taking
pub mod Joining
