pub mod AccessByCode
