pub mod Misfits
