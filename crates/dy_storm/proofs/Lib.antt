pub mod Counting
pub mod FiveTokens
pub mod Growing
pub mod Tracing
