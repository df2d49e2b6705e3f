pub mod Row
pub mod Kinds
pub mod Told
pub mod Product
pub mod Inverse
pub mod Mapped
pub mod Laws
