pub mod Keys
pub mod Connections
