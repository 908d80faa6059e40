pub mod AuditLines
pub mod Refusing
pub mod RingLines
