pub mod NextLaws
pub mod ActLaws
pub mod AnswerLaws
pub mod LogLaws
pub mod FetchLaws
pub mod StageLaws
pub mod ScheduleLaws
pub mod SealLaws
