mod LinesLemmas
mod OrderLemmas
