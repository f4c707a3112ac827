pub mod Apart
pub mod Before
pub mod Told
pub mod Whole
pub mod Touching
