pub mod SurveySteps
pub mod SurveyRight
