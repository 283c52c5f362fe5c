pub mod SentFrames
pub mod Telling
pub mod Gathering
pub mod Copies
