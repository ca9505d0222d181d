-- The call for a run: refused, or run; what it promises of a run's steps, ending and sums; its steps (for wish 11); the call over decoded operations; the
-- operations whose words are at hand, which no public call cites; one step.
pub mod Call
pub mod Steps
pub mod Decoded
pub mod Span
pub mod Single
