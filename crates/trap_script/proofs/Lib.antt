pub mod NumberLemmas
pub mod LineLemmas
pub mod WalkLemmas
pub mod InputLemmas
pub mod GivenLemmas
pub mod Answering
pub mod Passing
pub mod DigitLemmas
