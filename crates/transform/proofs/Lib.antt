pub mod Entries
pub mod Finite
pub mod Undone
pub mod Skewed
