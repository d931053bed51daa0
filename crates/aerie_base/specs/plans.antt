pub mod OfModel
pub mod RisingIds
pub mod FoundById
pub mod FollowedAnchors
pub mod Cases
