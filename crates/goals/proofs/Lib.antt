pub mod FreeTimes
pub mod MergedGaps
pub mod Rising
pub mod SameValues
pub mod SortedAnchors
pub mod Spreading
