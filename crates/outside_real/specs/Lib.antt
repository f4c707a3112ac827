pub mod RealStream
pub mod RealPost
pub mod RealSite
pub mod UsersFiles
