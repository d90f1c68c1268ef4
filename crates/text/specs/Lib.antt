pub mod Scan
pub mod Meaning
pub mod Reasons
pub mod Messages
