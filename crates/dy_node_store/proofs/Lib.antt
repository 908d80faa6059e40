pub mod AbsorbLemmas
pub mod CounterLemmas
pub mod DotLemmas
pub mod Hashed
pub mod Maps
pub mod Ordered
pub mod RowLemmas
