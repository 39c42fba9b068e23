-- What the reading of the input promises.
pub mod Input
