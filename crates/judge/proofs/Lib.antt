-- What is shown of the judge.
pub mod Refused
pub mod Passed
pub mod Verdicts
pub mod Unique
