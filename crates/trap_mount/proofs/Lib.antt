pub mod Frames
pub mod Puts
mod HeadTests
mod FreshArray
mod LogGate
mod MemberDisks
mod MountHistory
mod MountMembers
mod MountRecords
mod MountPuts
pub mod MountReads
mod MountRefusals
mod MountStands
mod OneRefusal
mod Zeros
