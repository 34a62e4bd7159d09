pub mod Owned
pub mod Opened
