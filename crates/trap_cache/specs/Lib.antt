pub mod Cached
pub mod Lending
pub mod Slots
