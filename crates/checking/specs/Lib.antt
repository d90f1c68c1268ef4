pub mod Faults
pub mod Found
pub mod Verdict
pub mod Worked
