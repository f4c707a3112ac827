pub mod Shown
pub mod Met
