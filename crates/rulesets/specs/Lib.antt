pub mod OpenConditions
pub mod OwnVerdicts
pub mod RulesByLines
