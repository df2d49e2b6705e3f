pub mod Answers
pub mod Quads
pub mod Steps
