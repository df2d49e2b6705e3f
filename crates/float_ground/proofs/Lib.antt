pub mod Apart
pub mod Converting
pub mod Losses
pub mod Narrower
pub mod Packing
pub mod RootKinds
pub mod Rooting
pub mod Shifted
