pub mod Left
pub mod Layout
pub mod Table
