pub mod Closing
pub mod Requests
pub mod RequestReports
pub mod Laws
