pub mod Answers
pub mod Cut
pub mod Kinds
pub mod Laws
pub mod Numbers
pub mod Reading
pub mod Record
pub mod Writing
