-- Rules with their expressions flattened, as code has them.
use Rattle.std.specs.Prelude.{List, map}
use Rattle.ftl_grammar.specs.syntax.Trees as trees
use Rattle.ftl_grammar.specs.declared.syntax.rules.Body.{Body}
use Rattle.ftl_grammar.specs.declared.syntax.rules.Body.TheVariants as bodies
use Rattle.ftl_grammar.specs.declared.syntax.rules.Class.{Class}
use Rattle.ftl_grammar.specs.declared.syntax.rules.Rule.{Rule}
use Rattle.ftl_checked.specs.declared.declarations.flat.FlatBody.{FlatBody}
use Rattle.ftl_checked.specs.declared.declarations.flat.FlatBody.TheVariants as flat
use Rattle.ftl_checked.specs.declared.declarations.flat.FlatRule.{FlatRule}

-- the body that code has so
abbrev pub body_in : FlatBody → Body
body_in (flat.Plain e) = bodies.Plain e
body_in (flat.FirstThen e f) = bodies.FirstThen e f
body_in (flat.Fold c e f) = bodies.Fold c.now e f

-- the rule
abbrev pub rule_in : FlatRule → Rule
rule_in r = trees.rule r.target.now (body_in r.body)

-- the rules of some classes
abbrev pub rules_in : List (List FlatRule) → List (List Rule)
rules_in rs = map (map rule_in) rs

-- the rules of each class
abbrev pub rules_of_each : List Class → List (List Rule)
rules_of_each xs = map (λ x. x.rules) xs
