pub mod AccessBySurvey
