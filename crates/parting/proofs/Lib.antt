mod Exchanged
mod LiveExchanges
mod PassingTime
mod PlainLateness
mod Resuming
mod TaskPaths
