pub mod ClassifierLaws
pub mod RuleLaws
pub mod WholeLaws
