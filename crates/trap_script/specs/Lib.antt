pub mod Numbers
pub mod Forms
pub mod Lines
pub mod Replies
pub mod Walk
