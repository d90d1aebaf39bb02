pub mod DirectoryLemmas
pub mod EntryLemmas
pub mod StoredEntries
