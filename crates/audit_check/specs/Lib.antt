pub mod Events
pub mod Legal
pub mod Said
pub mod Following
pub mod Written
pub mod Seats
pub mod History
