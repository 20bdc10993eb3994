mod AgreeLemmas
pub mod EntryLemmas
pub mod GoingOn
mod PieceLemmas
mod TextLemmas
