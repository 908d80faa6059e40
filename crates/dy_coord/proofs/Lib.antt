pub mod Acked
pub mod Beside
pub mod ForHomes
pub mod Getting
pub mod Holders
pub mod Trying
pub mod Stored
