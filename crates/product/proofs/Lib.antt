-- What is shown of the product.
pub mod Waiting
pub mod Numbers
pub mod Nodes
pub mod Operators
pub mod Truth
pub mod Steps
pub mod Lassos
pub mod Promises
pub mod Sound
pub mod Complete
pub mod Published
pub mod Words
pub mod Lanes
