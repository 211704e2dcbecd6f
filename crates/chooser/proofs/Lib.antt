pub mod Apart
pub mod Lowest
pub mod Rules
pub mod Stages
pub mod Standing
pub mod Tables
