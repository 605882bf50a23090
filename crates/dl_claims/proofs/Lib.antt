mod Common
pub mod WeightLists
pub mod Enclosing
pub mod GiantSteps
mod HornerSteps
mod BlockEnds
pub mod Spreads
mod EndLists
mod Ends
mod BlockGrids
mod PowerGrids
mod StepGrids
mod ShortGrids
mod Neighbours
mod SingleCount
pub mod HornerGrids
