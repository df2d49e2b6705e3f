pub mod Alone
mod Counts
pub mod Cuts
mod Examples
mod First
mod Journals
mod Judged
pub mod Kept
mod Moved
mod Patterns
mod Signed
pub mod Stores
mod There
pub mod Together
