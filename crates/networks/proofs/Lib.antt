pub mod Fills
pub mod Grading
pub mod Refusals
pub mod Rising
