pub mod Frames
pub mod DiagnosticData
