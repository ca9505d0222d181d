-- One long sum on several boards (wish 11): the boards' sum; a dot product and the stretches of it that boards run; what the call is promised to be.
pub mod Boards
pub mod Dot
pub mod Call
