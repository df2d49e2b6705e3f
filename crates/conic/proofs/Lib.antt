pub mod Agree
pub mod AnyRule
pub mod Ceilings
pub mod Levels
pub mod OneWay
pub mod Sources
pub mod Unique
pub mod Ways
mod Whole
pub mod Zeros
