pub mod PutLemmas
pub mod WriteLemmas
pub mod AlikeLemmas
pub mod BackLemmas
