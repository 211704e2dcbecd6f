pub mod EveryNodeShown
pub mod Growing
pub mod NewChooser
pub mod FirstBytes
