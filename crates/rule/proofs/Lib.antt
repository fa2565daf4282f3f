-- What is shown of numbers of operators, words and values.
pub mod Codes
pub mod Operands
pub mod Values
pub mod Passes
pub mod Entries
