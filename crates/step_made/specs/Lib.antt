-- What a step that was made or refused stands for.
pub mod Made
