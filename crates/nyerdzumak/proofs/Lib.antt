pub mod Autos
pub mod Later
