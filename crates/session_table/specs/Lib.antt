pub mod Files
pub mod Marks
pub mod Rows
pub mod Standing
pub mod Judging
pub mod Tables
