pub mod Curved
