pub mod Edits
pub mod Pairs
pub mod Answers
pub mod Reading
pub mod Law
pub mod Standing
