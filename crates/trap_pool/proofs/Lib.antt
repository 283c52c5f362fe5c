pub mod Written
pub mod Regions
pub mod Leases
pub mod Pools
pub mod Taking
