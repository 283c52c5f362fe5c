pub mod Pooled
pub mod Frames
pub mod Region
pub mod Lending
