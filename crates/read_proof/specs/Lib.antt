pub mod Beside
pub mod Tokens
pub mod Proves
pub mod ProofOf
pub mod FirstProof
