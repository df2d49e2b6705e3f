pub mod Absolute
pub mod Formula
pub mod Narrow
pub mod Root
pub mod Zeros
