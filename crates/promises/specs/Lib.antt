-- The words of what is promised: Words, Sentences, Places and Published; and document 01 as it stood before queries, in Before.
pub mod Words
pub mod Before
pub mod Published
pub mod Sentences
pub mod Places
