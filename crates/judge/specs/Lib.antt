-- What is believed of the judge, in the order of the paper; and, in `Truths`, what contracts inside cite.
pub mod Refusals
pub mod Judged
pub mod Truths
