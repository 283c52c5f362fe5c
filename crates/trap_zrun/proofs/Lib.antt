pub mod Begun
pub mod Scanning
pub mod Coding
pub mod Decoding
