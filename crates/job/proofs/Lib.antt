pub mod StageLaws
pub mod ThreadLaws
pub mod FieldsGot
