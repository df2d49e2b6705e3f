pub mod Agree
pub mod Auto
pub mod Cut
pub mod Ladder
pub mod Order
pub mod Zeros
