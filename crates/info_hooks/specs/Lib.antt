pub mod Texts
pub mod Said
pub mod Hooks
pub mod Twice
