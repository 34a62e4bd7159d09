pub mod Room
pub mod Printed
pub mod Alike
