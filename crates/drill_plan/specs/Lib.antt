pub mod Classes
pub mod Passwords
pub mod DrillSetup
pub mod Requests
pub mod Plan
pub mod Drill
pub mod Played
