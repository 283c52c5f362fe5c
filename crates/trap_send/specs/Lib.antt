pub mod Sending
pub mod EntryFrames
pub mod Sends
pub mod Copying
pub mod Pieces
