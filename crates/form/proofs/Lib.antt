-- Worked examples first, so that a wrong definition shows as a wrong number; then the laws: `operation_again` of Again ties words and operation.
pub mod WordExamples
pub mod Again
pub mod Programs
pub mod Fields
pub mod Roles
pub mod ByKind
pub mod Ranges
