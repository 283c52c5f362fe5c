pub mod Hits
pub mod LawProofs
pub mod Places
pub mod Steps
