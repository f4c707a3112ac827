pub mod Files
pub mod Known
pub mod Asking
pub mod Work
pub mod Made
pub mod Serving
