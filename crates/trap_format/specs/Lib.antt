pub mod Checked
pub mod LogDisk
pub mod MemberDisk
pub mod HeadValue
pub mod Shape
pub mod ReplicaDisk
