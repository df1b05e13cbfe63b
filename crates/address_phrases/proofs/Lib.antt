pub mod FormReaders
