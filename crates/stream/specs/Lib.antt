-- The case stream: a case's header, and after it the words of memory or the boards; why it stops.
pub mod Header
pub mod Memory
pub mod Boards
pub mod Stop
