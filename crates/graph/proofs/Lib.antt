-- The nested depth-first search over an abstract graph. Nobody has to believe the graph or the machine: they are proved with, not promised.
pub mod Graph
pub mod Machine
pub mod Paths
pub mod Lists
pub mod Stacks
pub mod Paints
pub mod OuterTurns
pub mod InnerTurns
pub mod Measures
pub mod Conclusions
pub mod Pigeonhole
pub mod Parts
