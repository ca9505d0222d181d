-- What kinds 1 to 7 read, and the shape that most of them have.
pub mod Fetched
