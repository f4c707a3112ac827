pub mod Disk
pub mod Records
pub mod Journal
pub mod Appending
pub mod MemDisk
