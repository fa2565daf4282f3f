-- What is shown of bits, once, over the width.
pub mod Bit
pub mod Number
pub mod Words
pub mod Word
