pub mod Numbers
pub mod Point
