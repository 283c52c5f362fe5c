pub mod Undo
pub mod Past
pub mod Asking
pub mod Memory
pub mod MemoryFields
