-- The pieces that the stepping code is lent and handed, put together; the write of an exact result; repeat left, loops and pc.
pub mod Lent
pub mod Settled
pub mod Standing
