-- A service in the order in which it is read: bags and services, exact sums over a whole service, bags as lent slices, and the call that serves them.
pub mod Service
pub mod Exact
pub mod Bags
pub mod Call
