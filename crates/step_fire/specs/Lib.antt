-- Which buffers are acted on, and what becomes of each.
pub mod Acts
