-- What is shown of reading, below the proofs of the functions.
pub mod Lowest
pub mod Admitted
pub mod Rows
pub mod Fields
pub mod Facts
pub mod Known
pub mod Spans
pub mod Read
pub mod Examples
