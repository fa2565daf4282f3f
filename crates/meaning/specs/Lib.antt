-- What is believed of rules, tables and runs, in the order of the paper.
pub mod Formula
pub mod Table
pub mod Laws
pub mod Runs
