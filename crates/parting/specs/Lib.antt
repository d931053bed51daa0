pub mod Exchanges
pub mod IdRanges
pub mod PlainLateness
pub mod Resuming
pub mod UnbegunDirectives
pub mod LiveExchanges
pub mod Cases
