pub mod Each
pub mod Heron
pub mod Keys
pub mod Last
pub mod Only
pub mod Radicand
