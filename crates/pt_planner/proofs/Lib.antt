pub mod ArraySectors
pub mod Assembling
mod Beginning
mod Begun
pub mod ByFirst
pub mod Encodings
pub mod Every
mod Failing
mod Heads
pub mod KeptPlans
pub mod LabelTurn
pub mod Labels
pub mod Lifts
mod Linking
mod Links
pub mod Lists
mod Made
mod Making
pub mod MbrTurn
pub mod NewMbr
mod Opening
mod Over
mod Parts
pub mod PhasesPlans
pub mod Pieces
pub mod PlacesWhole
pub mod Ranges
pub mod Reached
pub mod Refusing
pub mod SameBytes
pub mod Shapes
pub mod Sides
pub mod Standing
pub mod Sums
mod Surveyed
pub mod Touching
pub mod TurnShapes
pub mod Turning
mod Whole
pub mod Wrote
