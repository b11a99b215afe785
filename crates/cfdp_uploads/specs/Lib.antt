pub mod Uploads
pub mod Judging
pub mod Laws
pub mod Texts
pub mod Orders
