pub mod ElementRecords
