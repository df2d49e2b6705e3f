pub mod Text
pub mod Thousandths
