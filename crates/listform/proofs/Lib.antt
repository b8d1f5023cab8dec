pub mod ListForms
pub mod RowForms
pub mod ValueForms
pub mod WalkSteps
