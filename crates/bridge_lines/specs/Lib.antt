pub mod Decimal
pub mod Faults
pub mod Kinds
pub mod Pad
pub mod Reading
pub mod Words
