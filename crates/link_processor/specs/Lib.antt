pub mod ProcessorRecords
