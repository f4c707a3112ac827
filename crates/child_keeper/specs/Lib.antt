pub mod Tickets
pub mod Links
pub mod Starts
pub mod Live
pub mod Launching
