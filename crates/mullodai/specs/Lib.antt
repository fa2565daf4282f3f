-- What the entries for C answer.
pub mod Outcomes
