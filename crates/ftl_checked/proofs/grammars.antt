pub mod SlotSets
pub mod RuleLists
pub mod MissingLists
pub mod RuleInfos
