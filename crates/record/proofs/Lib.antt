pub mod CardChanged
pub mod KindsLaws
pub mod PostingLaws
