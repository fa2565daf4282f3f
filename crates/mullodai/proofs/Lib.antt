-- What is shown of the entries for C. Read `Demands` first.
pub mod Demands
pub mod OneState
pub mod StateList
pub mod Judge
pub mod WrongJudge
pub mod Search
pub mod StateLists
