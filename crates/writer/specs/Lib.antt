-- Records row by row, as the writer writes them, and the file up to its weights.
pub mod RowRecords
pub mod FileFront
