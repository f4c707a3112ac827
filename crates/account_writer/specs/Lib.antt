pub mod CurrentSetup
pub mod Puts
pub mod Tables
pub mod Written
