-- Rules by name, typed by hand.
use Rattle.std.specs.Prelude.{None, Some, codes}
use Rattle.ftl_meaning.specs.declared.faults.rule_name.RuleName.{RuleName}

-- `self.h` of `Column`
abbrev pub h : RuleName
h = record { class = codes "Column"; child = None; attr = codes "h" }

-- `kids.y` of `Column`
abbrev pub y : RuleName
y = record { class = codes "Column"; child = Some (codes "kids"); attr = codes "y" }
