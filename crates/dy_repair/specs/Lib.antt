pub mod Stales
pub mod Repairs
pub mod inside
