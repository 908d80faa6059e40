pub mod Parcels
pub mod inside
