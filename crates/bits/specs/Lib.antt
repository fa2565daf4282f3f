-- What is believed of bits.
pub mod Bits
