pub mod CodeLemmas
pub mod Numbers
pub mod KeptLists
mod KeptRequests
mod LawLemmas
pub mod ObjectLinesLemmas
pub mod PlainWords
pub mod RisingLemmas
pub mod Sides
