-- The laws that the layers above cite.
pub mod BitLaws
pub mod WireLaws
pub mod PlaneLaws
pub mod GroupLaws
pub mod TurnLaws
