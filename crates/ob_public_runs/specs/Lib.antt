pub mod RunsPublic
