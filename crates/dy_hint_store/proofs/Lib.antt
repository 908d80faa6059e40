pub mod HomeLemmas
pub mod Listing
