mod AreaWords
mod ExchangeLemmas
pub mod MoveLemmas
pub mod TreeLemmas
pub mod LinkageLemmas
pub mod LinkAreaLemmas
