pub mod StepsBySurvey
pub mod CallBySurvey
