pub mod Rebuilding
pub mod Replacing
