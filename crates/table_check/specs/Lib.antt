-- What the helpers of the mirror test promise one another.
pub mod Cursors
