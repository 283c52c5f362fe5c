pub mod Staged
pub mod Pending
pub mod Slots
pub mod Held
pub mod Found
pub mod Mounting
