mod Opening
pub mod Seated
pub mod Sent
