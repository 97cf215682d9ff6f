pub mod StepLaws
pub mod MaskLaws
pub mod EveryLaws
pub mod GoalLaws
pub mod StartLaws
