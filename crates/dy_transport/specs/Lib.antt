pub mod Snapshots
pub mod Kinds
pub mod Asking
pub mod Refusals
pub mod Told
pub mod Lines
pub mod inside
pub mod Tellings
