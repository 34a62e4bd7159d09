pub mod KomiLemmas
pub mod LineLemmas
pub mod RowLemmas
pub mod SpanLemmas
pub mod WithinLemmas
