pub mod Gates
pub mod Keeping
pub mod Putting
pub mod Beginning
pub mod Mounting
pub mod Beside
pub mod Stages
