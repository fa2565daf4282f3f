-- What is shown of lanes, of the arrays that hold them, and of where each state's edges start.
pub mod Lane
pub mod Filling
pub mod Nodes
pub mod Rows
pub mod Blocks
pub mod Stores
pub mod Edges
pub mod Truths
pub mod Adding
