-- Networks by reach: the network, and that its shares are defined.
pub mod ByReach
