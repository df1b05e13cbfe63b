pub mod StoredRecords
