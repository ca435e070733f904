-- The readers of rules, classes and grammars look one token ahead: `x_alike` says it of the reader `x`.
use Rattle.std.proofs.Common.{ℕ, suc, [], ◌∷◌, map, Option, Some, refl}
use Rattle.ftl_tokens.specs.declared.scanner.kind.Kind.{Kind}
use Rattle.ftl_tokens.specs.declared.scanner.kind.Kind.TheVariants as kind
use Rattle.ftl_tokens.specs.declared.reading.chain_item.ChainItem.TheVariants.{Next, Last}
use Rattle.ftl_tokens.specs.reading.Reader.{Reader, next_kind, push}
use Rattle.ftl_tokens.proofs.reading.KeptPrefix.{KeepsPrefix}
use Rattle.ftl_tokens.proofs.reading.Alike.{Alike, AlikeAt, pure_alike, look_alike, alike_at_any, bind_alike, map_alike}
use Rattle.ftl_tokens.proofs.reading.TokenAlike.{past_alike, name_alike, skip_alike, at_end_alike}
use Rattle.ftl_tokens.proofs.reading.ChainAlike.{TakesSome, takes_some, chain_alike}
use Rattle.ftl_tokens.proofs.reading.UntilAlike.{ChainItemTakesSome, step_takes_some, until_alike}
use Rattle.ftl_grammar.specs.declared.syntax.expression.Expr.{Expr}
use Rattle.ftl_grammar.specs.declared.syntax.rules.AttrKind.{AttrKind}
use Rattle.ftl_grammar.specs.declared.syntax.rules.AttrKind.TheVariants as attr
use Rattle.ftl_grammar.specs.declared.syntax.rules.Body.TheVariants as bodies
use Rattle.ftl_grammar.specs.declared.syntax.rules.Declaration.TheVariants as declarations
use Rattle.ftl_grammar.specs.syntax.Trees as trees
use Rattle.ftl_grammar.specs.syntax.Trees.{NameText}
use Rattle.ftl_grammar.specs.syntax.Spelling.{SpellsExpr}
use Rattle.ftl_grammar.specs.syntax.GrammarReading as reading
use Rattle.ftl_grammar.specs.syntax.GrammarReading.{own_body_by, own_body, child_body_by, child_body, rule_by, named_by, named}
use Rattle.ftl_grammar.specs.syntax.GrammarReading.{member_by, member, list_of, class, declaration_by, declaration}
use Rattle.ftl_grammar.specs.syntax.GrammarReading.{add_declaration, grammar_level}
use Rattle.ftl_grammar.specs.syntax.InterfaceReading.{comma_name_by, comma_name, names, name_line, attr_group, attrs_by, attrs}
use Rattle.ftl_grammar.specs.syntax.InterfaceReading.{own_attrs_by, own_attrs, append, shown_by, shown, interface, list_child}
use Rattle.ftl_grammar.specs.syntax.InterfaceReading.{single_child, child_by, child}
use Rattle.ftl_grammar.proofs.syntax.Heads.{height, past_plain, past_bracket, past_end_bracket, past_name}
use Rattle.ftl_grammar.proofs.syntax.Lengths.{some_comma_name, some_attrs, some_own_attrs, some_rule, some_child}
use Rattle.ftl_grammar.proofs.syntax.Lengths.{some_declaration}
use Rattle.ftl_grammar.proofs.syntax.InterfacePrefix.{comma_name_prefix, attrs_prefix, own_attrs_prefix}
use Rattle.ftl_grammar.proofs.syntax.RulePrefix.{rule_prefix, member_prefix}
use Rattle.ftl_grammar.proofs.syntax.GrammarPrefix.{declaration_prefix}
use Rattle.ftl_grammar.proofs.syntax.SumAlike.{dot_name_alike}

-- ---- names and attributes

comma_name_alike : {n : ℕ} → Alike height n n comma_name comma_name
unfolding comma_name
comma_name_alike {n} = look_alike comma_name_by comma_name_by each
  where
    each : (k : Option Kind) → AlikeAt height n n k (comma_name_by k) (comma_name_by k)
    each (Some kind.Comma) =
        skip_alike kind.Comma tt (past_plain kind.Comma refl) (name_alike past_name (λ c. pure_alike))
    each _ = alike_at_any pure_alike

some_comma_names : TakesSome comma_name
unfolding comma_name next_kind
some_comma_names = takes_some comma_name_prefix (λ a x s. some_comma_name s) refl

names_alike : {n : ℕ} → Alike height n n names names
unfolding names
names_alike = name_alike past_name (λ x. chain_alike push comma_name_alike some_comma_names some_comma_names (x ∷ []))

name_line_alike : {n : ℕ} → Alike height n n name_line name_line
unfolding name_line
name_line_alike = bind_alike names_alike (λ ns. past_alike kind.Semicolon (past_plain kind.Semicolon refl) pure_alike)

attr_group_alike : {n : ℕ} (k : AttrKind) → Alike height n n (attr_group k) (attr_group k)
unfolding attr_group
attr_group_alike k = map_alike (λ ns. Some (map (trees.attr_decl k) ns)) name_line_alike

attrs_alike : {n : ℕ} → Alike height n n attrs attrs
unfolding attrs
attrs_alike {n} = look_alike attrs_by attrs_by each
  where
    each : (k : Option Kind) → AlikeAt height n n k (attrs_by k) (attrs_by k)
    each (Some kind.Inh) = skip_alike kind.Inh tt (past_plain kind.Inh refl) (attr_group_alike attr.Inh)
    each (Some kind.Syn) = skip_alike kind.Syn tt (past_plain kind.Syn refl) (attr_group_alike attr.Syn)
    each (Some kind.Input) = skip_alike kind.Input tt (past_plain kind.Input refl) (attr_group_alike attr.Input)
    each _ = alike_at_any pure_alike

own_attrs_alike : {n : ℕ} → Alike height n n own_attrs own_attrs
unfolding own_attrs
own_attrs_alike {n} = look_alike own_attrs_by own_attrs_by each
  where
    each : (k : Option Kind) → AlikeAt height n n k (own_attrs_by k) (own_attrs_by k)
    each (Some kind.Input) = skip_alike kind.Input tt (past_plain kind.Input refl) (attr_group_alike attr.Input)
    each (Some kind.Local) = skip_alike kind.Local tt (past_plain kind.Local refl) (attr_group_alike attr.Local)
    each _ = alike_at_any pure_alike

some_attr_groups : TakesSome attrs
unfolding attrs next_kind
some_attr_groups = takes_some attrs_prefix (λ a x s. some_attrs s) refl

some_own_groups : TakesSome own_attrs
unfolding own_attrs next_kind
some_own_groups = takes_some own_attrs_prefix (λ a x s. some_own_attrs s) refl

-- ---- interfaces and children

shown_alike : {n : ℕ} → Alike height n n shown shown
unfolding shown
shown_alike {n} = look_alike shown_by shown_by each
  where
    each : (k : Option Kind) → AlikeAt height n n k (shown_by k) (shown_by k)
    each (Some kind.Show) = skip_alike kind.Show tt (past_plain kind.Show refl) name_line_alike
    each _ = alike_at_any pure_alike

interface_alike : {n : ℕ} → Alike height n n interface interface
unfolding interface
interface_alike =
    name_alike past_name
    (λ c. past_alike kind.LeftBrace (past_plain kind.LeftBrace refl)
    (bind_alike (chain_alike append attrs_alike some_attr_groups some_attr_groups [])
    (λ xs. bind_alike shown_alike (λ ns. past_alike kind.RightBrace (past_plain kind.RightBrace refl) pure_alike))))

child_alike : {n : ℕ} (c : NameText) → Alike height (suc n) (suc n) (child c) (child c)
unfolding child single_child list_child
child_alike {n} c = look_alike (child_by c) (child_by c) each
  where
    each : (k : Option Kind) → AlikeAt height (suc n) (suc n) k (child_by c k) (child_by c k)
    each (Some kind.LeftBracket) =
        skip_alike kind.LeftBracket tt past_bracket
        (name_alike past_name
        (λ d. past_alike kind.RightBracket past_end_bracket
        (past_alike kind.Semicolon (past_plain kind.Semicolon refl) pure_alike)))
    each _ =
        alike_at_any (name_alike past_name (λ d. past_alike kind.Semicolon (past_plain kind.Semicolon refl) pure_alike))

-- ---- rules and classes

some_rules : {expr : Reader Expr} → KeepsPrefix SpellsExpr expr → TakesSome (reading.rule expr)
unfolding reading.rule next_kind
some_rules told = takes_some (rule_prefix told) (λ a x s. some_rule s) refl

some_members : {expr : Reader Expr} → KeepsPrefix SpellsExpr expr → ChainItemTakesSome (member expr)
unfolding member next_kind
some_members told = step_takes_some (member_prefix told) (λ a x s. some_child s) refl

some_declarations : {expr : Reader Expr} → KeepsPrefix SpellsExpr expr → TakesSome (declaration expr)
unfolding declaration next_kind
some_declarations told = takes_some (declaration_prefix told) (λ a x s. some_declaration s) refl

module _ {expr other : Reader Expr} {n : ℕ} (expr_prefix : KeepsPrefix SpellsExpr expr) (other_prefix : KeepsPrefix SpellsExpr other)
    (expr_alike : Alike height (suc n) (suc n) expr other) where
  fold_alike : Alike height (suc n) (suc n) (reading.fold expr) (reading.fold other)
  unfolding reading.fold
  fold_alike =
      name_alike past_name
      (λ c. past_alike kind.From (past_plain kind.From refl)
      (bind_alike expr_alike
      (λ x. past_alike kind.With (past_plain kind.With refl) (map_alike (λ y. bodies.Fold c x y) expr_alike))))

  own_body_alike : Alike height (suc n) (suc n) (own_body expr) (own_body other)
  unfolding own_body
  own_body_alike = look_alike (own_body_by expr) (own_body_by other) each
    where
      each : (k : Option Kind) → AlikeAt height (suc n) (suc n) k (own_body_by expr k) (own_body_by other k)
      each (Some kind.Fold) = skip_alike kind.Fold tt (past_plain kind.Fold refl) fold_alike
      each _ = alike_at_any (map_alike bodies.Plain expr_alike)

  first_then_alike : Alike height (suc n) (suc n) (reading.first_then expr) (reading.first_then other)
  unfolding reading.first_then
  first_then_alike =
      bind_alike expr_alike
      (λ x. past_alike kind.Then (past_plain kind.Then refl) (map_alike (λ y. bodies.FirstThen x y) expr_alike))

  child_body_alike : Alike height (suc n) (suc n) (child_body expr) (child_body other)
  unfolding child_body
  child_body_alike = look_alike (child_body_by expr) (child_body_by other) each
    where
      each : (k : Option Kind) → AlikeAt height (suc n) (suc n) k (child_body_by expr k) (child_body_by other k)
      each (Some kind.First) = skip_alike kind.First tt (past_plain kind.First refl) first_then_alike
      each _ = alike_at_any (map_alike bodies.Plain expr_alike)

  own_rule_alike : Alike height (suc n) (suc n) (reading.own_rule expr) (reading.own_rule other)
  unfolding reading.own_rule
  own_rule_alike =
      bind_alike dot_name_alike
      (λ d. past_alike kind.Assign (past_plain kind.Assign refl)
      (bind_alike own_body_alike (λ x. past_alike kind.Semicolon (past_plain kind.Semicolon refl) pure_alike)))

  child_rule_alike : (c : NameText)
      → Alike height (suc n) (suc n) (reading.child_rule expr c) (reading.child_rule other c)
  unfolding reading.child_rule
  child_rule_alike c =
      bind_alike dot_name_alike
      (λ d. past_alike kind.Assign (past_plain kind.Assign refl)
      (bind_alike child_body_alike (λ x. past_alike kind.Semicolon (past_plain kind.Semicolon refl) pure_alike)))

  rule_alike : Alike height (suc n) (suc n) (reading.rule expr) (reading.rule other)
  unfolding reading.rule
  rule_alike = look_alike (rule_by expr) (rule_by other) each
    where
      each : (k : Option Kind) → AlikeAt height (suc n) (suc n) k (rule_by expr k) (rule_by other k)
      each (Some kind.SelfWord) =
          skip_alike kind.SelfWord tt (past_plain kind.SelfWord refl) (map_alike Some own_rule_alike)
      each (Some kind.Name) = alike_at_any (name_alike past_name (λ c. map_alike Some (child_rule_alike c)))
      each _ = alike_at_any pure_alike

  named_alike : (c : NameText) → Alike height (suc n) (suc n) (named expr c) (named other c)
  unfolding named
  named_alike c = look_alike (named_by expr c) (named_by other c) each
    where
      each : (k : Option Kind) → AlikeAt height (suc n) (suc n) k (named_by expr c k) (named_by other c k)
      each (Some kind.Colon) = skip_alike kind.Colon tt (past_plain kind.Colon refl) (map_alike Next (child_alike c))
      each _ = alike_at_any (map_alike Last (child_rule_alike c))

  member_alike : Alike height (suc n) (suc n) (member expr) (member other)
  unfolding member
  member_alike = look_alike (member_by expr) (member_by other) each
    where
      each : (k : Option Kind) → AlikeAt height (suc n) (suc n) k (member_by expr k) (member_by other k)
      each (Some kind.Name) = alike_at_any (name_alike past_name named_alike)
      each _ = alike_at_any pure_alike

  class_alike : Alike height (suc n) (suc n) (class expr) (class other)
  unfolding class
  class_alike =
      name_alike past_name
      (λ d. past_alike kind.Colon (past_plain kind.Colon refl)
      (name_alike past_name
      (λ i. past_alike kind.LeftBrace (past_plain kind.LeftBrace refl)
      (bind_alike (chain_alike append own_attrs_alike some_own_groups some_own_groups [])
      (λ xs. bind_alike (until_alike push member_alike (some_members expr_prefix) (some_members other_prefix) [])
      (λ ys. bind_alike (chain_alike push rule_alike (some_rules expr_prefix) (some_rules other_prefix) (list_of ys.1))
      (λ zs. past_alike kind.RightBrace (past_plain kind.RightBrace refl) pure_alike)))))))

  declaration_alike : Alike height (suc n) (suc n) (declaration expr) (declaration other)
  unfolding declaration
  declaration_alike = look_alike (declaration_by expr) (declaration_by other) each
    where
      each : (k : Option Kind) → AlikeAt height (suc n) (suc n) k (declaration_by expr k) (declaration_by other k)
      each (Some kind.Interface) =
          skip_alike kind.Interface tt (past_plain kind.Interface refl)
          (map_alike (λ x. Some (declarations.Interface x)) interface_alike)
      each (Some kind.Class) =
          skip_alike kind.Class tt (past_plain kind.Class refl)
          (map_alike (λ x. Some (declarations.Class x)) class_alike)
      each _ = alike_at_any pure_alike

  pub grammar_level_alike : Alike height (suc n) (suc n) (grammar_level expr) (grammar_level other)
  unfolding grammar_level
  grammar_level_alike =
      past_alike kind.Root (past_plain kind.Root refl)
      (name_alike past_name
      (λ d. past_alike kind.Semicolon (past_plain kind.Semicolon refl)
      (bind_alike
      (chain_alike add_declaration declaration_alike
      (some_declarations expr_prefix) (some_declarations other_prefix) ([], []))
      (λ xs. bind_alike at_end_alike (λ u. pure_alike)))))
