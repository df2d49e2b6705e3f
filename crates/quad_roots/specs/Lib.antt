pub mod Roots
