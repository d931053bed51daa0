mod ArgumentMembers
pub mod ArgumentOrders
pub mod Arrays
mod FirstPositions
mod FoundAt
mod NewIds
pub mod Noting
pub mod Numbers
pub mod Placing
mod RawArguments
pub mod ShownDirectives
mod ShownLoads
pub mod Violated
mod WrittenDirectives
mod WrittenValues
pub mod Zipped
