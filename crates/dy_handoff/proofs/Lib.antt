pub mod Handovers
pub mod Settlings
