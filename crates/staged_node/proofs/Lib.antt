pub mod ChainLaws
pub mod ChainRules
pub mod StepLaws
pub mod MarkedLaws
pub mod StageLaws
pub mod SettleLaws
