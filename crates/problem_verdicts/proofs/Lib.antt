pub mod SureMoveLemmas
pub mod MoveSetLemmas
pub mod CodeLemmas
pub mod VerdictLemmas
