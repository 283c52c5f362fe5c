pub mod Chain
pub mod Window
pub mod Faults
pub mod Scan
