-- Which refusals have a sentence, and which files are texts.
pub mod Sentences
pub mod Texts
