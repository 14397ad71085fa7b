pub mod OneCall
pub mod Loop
pub mod Answers
