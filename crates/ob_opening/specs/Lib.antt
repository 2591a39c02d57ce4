pub mod Formats
pub mod OpeningActs
pub mod OpeningParts
pub mod OpeningRuns
pub mod OpeningStops
pub mod Openings
