-- The product as it is published, in the order of the paper.
pub mod Places
pub mod Product
