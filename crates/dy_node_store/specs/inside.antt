-- What the invariants of types alone speak of.
pub mod Entries
