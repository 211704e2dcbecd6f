pub mod Alike
pub mod Decides
pub mod Events
pub mod Gathers
pub mod Members
pub mod States
pub mod Tables
pub mod Takes
