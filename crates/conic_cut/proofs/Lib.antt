pub mod Agree
mod Answers
mod Autos
pub mod Both
mod Ladder
pub mod Lists
pub mod Order
pub mod Stores
pub mod Unique
pub mod Zeros
