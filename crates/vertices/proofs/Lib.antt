pub mod NumberLemmas
pub mod VertexLemmas
pub mod WordLemmas
