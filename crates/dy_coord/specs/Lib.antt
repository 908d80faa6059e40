pub mod Calls
pub mod Following
pub mod Gets
pub mod Puts
pub mod PutDones
pub mod PutEnds
pub mod Sure
pub mod inside
