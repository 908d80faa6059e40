pub mod Answers
pub mod Nodes
pub mod Refusals
pub mod Settling
pub mod Stored
pub mod inside
