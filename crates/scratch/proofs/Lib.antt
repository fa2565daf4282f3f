-- What the judge's scratch holds.
pub mod Scratch
pub mod Bits
pub mod Stores
pub mod Added
pub mod Entries
