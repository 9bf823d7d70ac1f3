-- Laws of the definitions, and what the proofs of several functions use.
pub mod Laws
mod Lexing
mod Checking
mod Keys
mod Parts
mod Levels
mod Weights
mod Bound
mod Outcomes
mod Sequences
mod Groups
mod Answers
