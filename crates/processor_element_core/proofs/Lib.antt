pub mod ElementPlaces
pub mod ReadAndSet
pub mod AccessIs
pub mod AccessByTable
