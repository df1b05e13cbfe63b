pub mod TypeRecords
