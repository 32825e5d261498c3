mod CleanLemmas
mod CopyLemmas
mod LineLemmas
mod TranslationLemmas
pub mod FrontLemmas
