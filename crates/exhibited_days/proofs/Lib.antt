pub mod Calls
pub mod CrashDay
pub mod NewLog
pub mod Rest
pub mod SmallDays
