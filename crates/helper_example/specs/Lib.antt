pub mod TwoLiberties
