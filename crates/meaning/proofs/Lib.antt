-- What is shown of rules, tables and runs.
pub mod Valuation
pub mod Truths
pub mod Poles
pub mod Loops
pub mod Positions
pub mod Ahead
pub mod Folds
pub mod Operators
pub mod Hinge
pub mod Decided
pub mod Exists
pub mod Verdicts
pub mod Marked
