-- How heads and answers cross to another language: as plain numbers.
pub mod Words
pub mod Answers
