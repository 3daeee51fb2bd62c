pub mod Cursors
pub mod Reading
