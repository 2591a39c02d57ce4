pub mod KeyLemmas
pub mod PadLemmas
pub mod PieceLaws
pub mod Spelling
