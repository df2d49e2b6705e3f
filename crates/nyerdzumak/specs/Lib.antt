pub mod Dates
pub mod Given
pub mod Lent
