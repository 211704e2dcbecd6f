pub mod RunIsDay
pub mod Ways
