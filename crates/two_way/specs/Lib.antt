-- Networks of two-way lines: which network a line table holds, and computed examples.
pub mod TwoWay
pub mod Examples
