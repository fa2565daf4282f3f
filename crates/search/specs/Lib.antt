-- What is believed of the search: its answers' numbers and its outcome. Searching is for the inner contracts alone.
pub mod Answers
pub mod Outcome
pub mod Searching
