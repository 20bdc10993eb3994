pub mod GoingOn
pub mod Laws
pub mod OutcomeText
pub mod Outcomes
pub mod Pieces
pub mod SummaryText
