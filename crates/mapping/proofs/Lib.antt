pub mod Agree
pub mod Mapped
pub mod Pairs
