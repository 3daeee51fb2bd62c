-- Laws of the buffers that are cleared, of chunks in words, of what joins the store, and of the walk that collects it.
pub mod ClearLaws
pub mod ChunkLaws
pub mod JoinLaws
pub mod CollectLaws
pub mod AddsLaws
pub mod KnowsLaws
