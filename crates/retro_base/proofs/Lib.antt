pub mod FieldLaws
pub mod Numbers
