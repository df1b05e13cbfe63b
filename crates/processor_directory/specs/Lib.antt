pub mod Listing
pub mod StoredRows
