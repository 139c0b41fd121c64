pub mod OwnVerdictLaws
pub mod RulesByLinesLaws
pub mod SectionLineLaws
