pub mod Judging
pub mod Candidates
pub mod Chains
