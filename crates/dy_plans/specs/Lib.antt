pub mod AuditLines
pub mod Openings
pub mod Refusals
pub mod RingLines
