pub mod Pasts
pub mod Steps
pub mod RingCourses
pub mod OpeningMoments
pub mod Runs
pub mod Formatting
