-- What the proofs of the search share, and what follows from its outcome.
pub mod Roots
pub mod Prepared
pub mod Outcomes
pub mod Night
