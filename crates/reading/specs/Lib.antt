-- What is believed of cases: the parts, the format, the refusals and their numbers, in the order of the paper; and, in `Node` and
-- `Held`, on which no promise of an entry rests, what contracts inside cite.
pub mod Lowest
pub mod Parts
pub mod Node
pub mod Refusals
pub mod Answers
pub mod Held
pub mod Night
