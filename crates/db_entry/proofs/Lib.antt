pub mod LineLemmas
pub mod DiagramLemmas
pub mod LabelLemmas
pub mod FieldLemmas
pub mod FewFields
