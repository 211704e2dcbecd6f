pub mod Anys
pub mod Clashes
pub mod Masks
pub mod Phases
pub mod Receiving
pub mod Writing
