pub mod JudgeLaws
pub mod NoteLaws
pub mod WorkedLaws
pub mod VerdictLaws
