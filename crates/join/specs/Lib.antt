-- Joined files in the order in which they are read: the joined program and its file, a run of it, and what the call is promised to be.
pub mod Join
pub mod Both
pub mod Call
