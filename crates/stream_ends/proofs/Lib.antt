pub mod ToldLemmas
pub mod ReaderLemmas
pub mod WriterLemmas
pub mod CountLemmas
