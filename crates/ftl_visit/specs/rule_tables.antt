pub mod RuleTables
