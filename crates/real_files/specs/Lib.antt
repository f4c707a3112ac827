pub mod RealEnds
pub mod RealFiles
pub mod RealSink
pub mod Findings
