-- Networks of one-way lines: which network a table holds, and computed examples.
pub mod OneWay
pub mod Examples
