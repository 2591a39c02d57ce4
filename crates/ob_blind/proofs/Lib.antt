pub mod RingLaws
pub mod EraseLaws
pub mod DrawLaws
pub mod FormatLaws
pub mod Sampling
