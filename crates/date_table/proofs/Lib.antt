mod Answers
pub mod Dates
pub mod Each
mod Examples
pub mod Forward
mod Found
pub mod Kept
mod Many
mod Pass
mod Places
pub mod Rounding
mod Taken
pub mod Unique
mod Walk
