-- What a table's type knows of its parts.
pub mod TableParts
