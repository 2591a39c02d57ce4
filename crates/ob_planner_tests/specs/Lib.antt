pub mod Planners
