pub mod Owned
pub mod Held
