pub mod WrittenRecords
