pub mod Changes
pub mod Halves
pub mod Patches
pub mod Undo
