-- The readers of rules keep the correct prefix: `x_prefix` of the reader `x`.
use Rattle.std.proofs.Common.{[], ◌∷◌, ◌++◌, Option, Some, refl}
use Rattle.ftl_tokens.specs.declared.scanner.kind.Kind.{Kind}
use Rattle.ftl_tokens.specs.declared.scanner.kind.Kind.TheVariants as kind
use Rattle.ftl_tokens.specs.scanner.Tokenized.{name, fixed}
use Rattle.ftl_tokens.specs.declared.reading.chain_item.ChainItem.TheVariants.{Next, Last}
use Rattle.ftl_tokens.specs.reading.Reader.{Tokens, Reader}
use Rattle.ftl_tokens.proofs.reading.KeptPrefix.{Example, example, After, KeepsPrefix, KeepsPrefixAt, bind_prefix, map_prefix, pure_prefix, wider_prefix}
use Rattle.ftl_tokens.proofs.reading.KeptPrefix.{look_prefix, at_any}
use Rattle.ftl_tokens.proofs.reading.TokenPrefix.{past_prefix, name_prefix, end_prefix, skip_prefix}
use Rattle.ftl_tokens.proofs.reading.ChainPrefix.{OrNone, ChainItemOf}
use Rattle.ftl_grammar.specs.declared.syntax.expression.Expr.{Expr}
use Rattle.ftl_grammar.specs.declared.syntax.rules.Child.{Child}
use Rattle.ftl_grammar.specs.declared.syntax.rules.Target.TheVariants as targets
use Rattle.ftl_grammar.specs.declared.syntax.rules.Body.{Body}
use Rattle.ftl_grammar.specs.declared.syntax.rules.Body.TheVariants as bodies
use Rattle.ftl_grammar.specs.declared.syntax.rules.Rule.{Rule}
use Rattle.ftl_grammar.specs.syntax.Trees as trees
use Rattle.ftl_grammar.specs.syntax.Trees.{NameText}
use Rattle.ftl_grammar.specs.syntax.Spelling.{SpellsExpr}
use Rattle.ftl_grammar.specs.syntax.GrammarSpelling.{SpellsChild, SpellsOwnBody, SpellsChildBody, SpellsRule, single, list}
use Rattle.ftl_grammar.specs.syntax.GrammarSpelling.{own_plain, child_plain, own_rule, child_rule}
use Rattle.ftl_grammar.specs.syntax.GrammarSpelling as spelling
use Rattle.ftl_grammar.specs.syntax.GrammarReading as reading
use Rattle.ftl_grammar.specs.syntax.GrammarReading.{own_body_by, own_body, child_body_by, child_body, rule_by, named_by, named}
use Rattle.ftl_grammar.specs.syntax.GrammarReading.{member_by, member}
use Rattle.ftl_grammar.proofs.syntax.Parts.{DotName, dot_name_of}
use Rattle.ftl_grammar.proofs.syntax.Examples.{zero_expr}
use Rattle.ftl_grammar.proofs.syntax.SumPrefix.{dot_name_prefix}
use Rattle.ftl_grammar.proofs.syntax.RuleParts.{ChildRest, single_rest, list_rest, FoldRest, fold_rest, FirstRest, first_rest}
use Rattle.ftl_grammar.proofs.syntax.RuleParts.{OwnRuleRest, own_rule_rest, ChildRuleRest, child_rule_rest, ChildRule}
use Rattle.ftl_grammar.proofs.syntax.RuleParts.{child_rule_of}
use Rattle.ftl_grammar.proofs.syntax.InterfacePrefix.{child_prefix}

-- ---- what the parts make

fold_turn : (a : Tokens) (x : Body) → FoldRest a x → SpellsOwnBody (fixed kind.Fold ∷ a) x
fold_turn a x (fold_rest s t) = spelling.fold s t

first_turn : (a : Tokens) (x : Body) → FirstRest a x → SpellsChildBody (fixed kind.First ∷ a) x
first_turn a x (first_rest s t) = spelling.first_then s t

own_rule_turn : (a : Tokens) (x : Rule) → OwnRuleRest a x → SpellsRule (fixed kind.SelfWord ∷ a) x
own_rule_turn a x (own_rule_rest s) = own_rule s

pub child_rule_turn : (c : NameText) (a : Tokens) (x : Rule) → ChildRuleRest c a x → SpellsRule (name c ∷ a) x
child_rule_turn c a x (child_rule_rest s) = child_rule s

pub from_child_rule : {a : Tokens} {x : Rule} → ChildRule a x → SpellsRule a x
from_child_rule (child_rule_of {c = c} {a = a} {x = x} s) = child_rule_turn c a x s

child_turn : (c : NameText) (a : Tokens) (x : Child) → ChildRest c a x → SpellsChild (name c ∷ fixed kind.Colon ∷ a) x
child_turn c a x single_rest = single
child_turn c a x list_rest = list

-- an attribute, `:=` and a body
own_dot_turn : {d : Tokens} {x : Body} (a : Tokens) (n : NameText) → DotName a n → SpellsOwnBody d x
    → OwnRuleRest (a ++ (fixed kind.Assign ∷ (d ++ (fixed kind.Semicolon ∷ [])))) (trees.rule (targets.Own n) x)
own_dot_turn a n dot_name_of s = own_rule_rest s

child_dot_turn : {d : Tokens} {x : Body} (c : NameText) (a : Tokens) (n : NameText) → DotName a n → SpellsChildBody d x
    → ChildRuleRest c (a ++ (fixed kind.Assign ∷ (d ++ (fixed kind.Semicolon ∷ [])))) (trees.rule (targets.Of c n) x)
child_dot_turn c a n dot_name_of s = child_rule_rest s

zero_own : Example SpellsOwnBody
zero_own = example zero_expr.tokens (bodies.Plain zero_expr.value) (own_plain zero_expr.spells)

zero_child : Example SpellsChildBody
zero_child = example zero_expr.tokens (bodies.Plain zero_expr.value) (child_plain zero_expr.spells)

module _ {expr : Reader Expr} (expr_prefix : KeepsPrefix SpellsExpr expr) where
  fold_prefix : KeepsPrefix FoldRest (reading.fold expr)
  unfolding reading.fold
  fold_prefix =
      name_prefix
      (λ c. example (fixed kind.From ∷ (zero_expr.tokens ++ (fixed kind.With ∷ zero_expr.tokens)))
      (bodies.Fold c zero_expr.value zero_expr.value) (fold_rest zero_expr.spells zero_expr.spells))
      (λ c. past_prefix kind.From
      (example (zero_expr.tokens ++ (fixed kind.With ∷ zero_expr.tokens))
      (bodies.Fold c zero_expr.value zero_expr.value) (fold_rest zero_expr.spells zero_expr.spells))
      (bind_prefix expr_prefix
      (λ a x s. example (fixed kind.With ∷ zero_expr.tokens) (bodies.Fold c x zero_expr.value)
      (fold_rest s zero_expr.spells))
      (λ a x s. past_prefix kind.With
      (example zero_expr.tokens (bodies.Fold c x zero_expr.value) (fold_rest s zero_expr.spells))
      (map_prefix (λ y. bodies.Fold c x y) expr_prefix (λ b y t. fold_rest s t)))))

  own_body_prefix : KeepsPrefix SpellsOwnBody (own_body expr)
  unfolding own_body
  own_body_prefix = look_prefix (own_body_by expr) each
    where
      each : (k : Option Kind) → KeepsPrefixAt k SpellsOwnBody (own_body_by expr k)
      each (Some kind.Fold) = skip_prefix kind.Fold tt (wider_prefix fold_turn fold_prefix)
      each _ = at_any (map_prefix bodies.Plain expr_prefix (λ a x s. own_plain s))

  first_then_prefix : KeepsPrefix FirstRest (reading.first_then expr)
  unfolding reading.first_then
  first_then_prefix =
      bind_prefix expr_prefix
      (λ a x s. example (fixed kind.Then ∷ zero_expr.tokens) (bodies.FirstThen x zero_expr.value)
      (first_rest s zero_expr.spells))
      (λ a x s. past_prefix kind.Then
      (example zero_expr.tokens (bodies.FirstThen x zero_expr.value) (first_rest s zero_expr.spells))
      (map_prefix (λ y. bodies.FirstThen x y) expr_prefix (λ b y t. first_rest s t)))

  child_body_prefix : KeepsPrefix SpellsChildBody (child_body expr)
  unfolding child_body
  child_body_prefix = look_prefix (child_body_by expr) each
    where
      each : (k : Option Kind) → KeepsPrefixAt k SpellsChildBody (child_body_by expr k)
      each (Some kind.First) = skip_prefix kind.First tt (wider_prefix first_turn first_then_prefix)
      each _ = at_any (map_prefix bodies.Plain expr_prefix (λ a x s. child_plain s))

  own_rule_prefix : KeepsPrefix OwnRuleRest (reading.own_rule expr)
  unfolding reading.own_rule
  own_rule_prefix =
      bind_prefix dot_name_prefix
      (λ a n d. example (fixed kind.Assign ∷ (zero_own.tokens ++ (fixed kind.Semicolon ∷ [])))
      (trees.rule (targets.Own n) zero_own.value) (own_dot_turn a n d zero_own.spells))
      (λ a n d. past_prefix kind.Assign
      (example (zero_own.tokens ++ (fixed kind.Semicolon ∷ []))
      (trees.rule (targets.Own n) zero_own.value) (own_dot_turn a n d zero_own.spells))
      (bind_prefix own_body_prefix
      (λ b x s. example (fixed kind.Semicolon ∷ []) (trees.rule (targets.Own n) x) (own_dot_turn a n d s))
      (λ b x s. end_prefix kind.Semicolon (trees.rule (targets.Own n) x) (own_dot_turn a n d s))))

  zero_rest : (c : NameText) → Example (ChildRuleRest c)
  zero_rest c =
      example (fixed kind.Dot ∷ name [] ∷ fixed kind.Assign ∷ (zero_child.tokens ++ (fixed kind.Semicolon ∷ [])))
      (trees.rule (targets.Of c []) zero_child.value) (child_rule_rest zero_child.spells)

  child_rule_prefix : (c : NameText) → KeepsPrefix (ChildRuleRest c) (reading.child_rule expr c)
  unfolding reading.child_rule
  child_rule_prefix c =
      bind_prefix dot_name_prefix
      (λ a n d. example (fixed kind.Assign ∷ (zero_child.tokens ++ (fixed kind.Semicolon ∷ [])))
      (trees.rule (targets.Of c n) zero_child.value) (child_dot_turn c a n d zero_child.spells))
      (λ a n d. past_prefix kind.Assign
      (example (zero_child.tokens ++ (fixed kind.Semicolon ∷ []))
      (trees.rule (targets.Of c n) zero_child.value) (child_dot_turn c a n d zero_child.spells))
      (bind_prefix child_body_prefix
      (λ b x s. example (fixed kind.Semicolon ∷ []) (trees.rule (targets.Of c n) x) (child_dot_turn c a n d s))
      (λ b x s. end_prefix kind.Semicolon (trees.rule (targets.Of c n) x) (child_dot_turn c a n d s))))

  pub rule_prefix : KeepsPrefix (OrNone SpellsRule) (reading.rule expr)
  unfolding reading.rule
  rule_prefix = look_prefix (rule_by expr) each
    where
      each : (k : Option Kind) → KeepsPrefixAt k (OrNone SpellsRule) (rule_by expr k)
      each (Some kind.SelfWord) = skip_prefix kind.SelfWord tt (map_prefix Some own_rule_prefix own_rule_turn)
      each (Some kind.Name) =
          at_any
          (name_prefix
          (λ c. let rest = zero_rest c in example rest.tokens (Some rest.value)
          (child_rule_turn c rest.tokens rest.value rest.spells))
          (λ c. map_prefix Some (child_rule_prefix c) (child_rule_turn c)))
      each _ = at_any (pure_prefix refl)

  -- ---- children and rules

  named_prefix : (c : NameText) → KeepsPrefix (After (name c ∷ []) (ChainItemOf SpellsChild ChildRule)) (named expr c)
  unfolding named
  named_prefix c = look_prefix (named_by expr c) each
    where
      each : (k : Option Kind) → KeepsPrefixAt k (After (name c ∷ []) (ChainItemOf SpellsChild ChildRule)) (named_by expr c k)
      each (Some kind.Colon) = skip_prefix kind.Colon tt (map_prefix Next (child_prefix c) (child_turn c))
      each _ = at_any (map_prefix Last (child_rule_prefix c) (λ a x s. child_rule_of s))

  pub member_prefix : KeepsPrefix (ChainItemOf SpellsChild ChildRule) (member expr)
  unfolding member
  member_prefix = look_prefix (member_by expr) each
    where
      each : (k : Option Kind) → KeepsPrefixAt k (ChainItemOf SpellsChild ChildRule) (member_by expr k)
      each (Some kind.Name) =
          at_any
          (name_prefix
          (λ c. let rest = zero_rest c in example rest.tokens (Last rest.value) (child_rule_of rest.spells))
          named_prefix)
      each _ = at_any (pure_prefix refl)
