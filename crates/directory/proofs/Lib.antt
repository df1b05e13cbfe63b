pub mod FirstPass
pub mod SecondPass
pub mod ListedFiles
pub mod RowLaws
