pub mod FileDisk
pub mod RealLog
