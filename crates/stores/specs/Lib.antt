pub mod Beside
pub mod Bytes
pub mod Faults
pub mod Lending
pub mod Meaning
pub mod Windows
