-- The laws that the layers above cite.
pub mod FieldLaws
pub mod RuleLaws
pub mod Examples
pub mod GateRuleLaws
pub mod SubLaws
pub mod GateLaws
pub mod PlaneSub
