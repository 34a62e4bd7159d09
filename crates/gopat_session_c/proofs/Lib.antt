pub mod AsBox
mod HeldAnswers
mod Unopened
