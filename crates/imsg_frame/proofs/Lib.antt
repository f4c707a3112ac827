pub mod Spelling
pub mod Fronts
pub mod Cuts
pub mod Arrays
pub mod Taking
pub mod Pieces
pub mod Turning
