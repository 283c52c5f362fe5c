mod Touching
mod Indexing
mod Decided
mod FormLemmas
mod Calling
mod Replying
mod Walking
mod Stopping
pub mod Arrays
mod Quits
mod Exchanging
mod Running
mod Ending
