pub mod Xor
pub mod Zeros
pub mod Fields
