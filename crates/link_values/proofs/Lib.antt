pub mod ValueRecords
