-- Rules are read whole: `x_went` by the reader `x`.
use Rattle.std.proofs.Common.{◌≡◌, ℕ, suc, ◌<◌, ◌≤◌, List, [], ◌∷◌, ◌++◌, Option, Some, None, refl, ap, append_assoc}
use Rattle.std.proofs.Common.{arith}
use Rattle.ftl_tokens.specs.declared.scanner.kind.Kind.{Kind}
use Rattle.ftl_tokens.specs.declared.scanner.kind.Kind.TheVariants as kind
use Rattle.ftl_tokens.specs.scanner.Tokenized.{name, fixed}
use Rattle.ftl_tokens.specs.declared.reading.chain_item.ChainItem.TheVariants.{Stop, Next, Last}
use Rattle.ftl_tokens.specs.reading.Reader.{Tokens, Reader, ◌>>=◌, ◌>>◌, ◌<$>◌, pure, next_kind, expect, push}
use Rattle.ftl_tokens.proofs.reading.ChainPrefix.{Chain, chain_none, chain_more}
use Rattle.ftl_tokens.proofs.reading.Went.{got, Went, Complete, went_bind, went_map, went_pure, went_past, went_skip}
use Rattle.ftl_tokens.proofs.reading.Went.{went_name, went_by, went_grouped}
use Rattle.ftl_tokens.proofs.reading.ChainWent.{CompleteItem}
use Rattle.ftl_tokens.proofs.reading.UntilWent.{CompleteChainItem}
use Rattle.ftl_grammar.specs.declared.syntax.expression.Expr.{Expr}
use Rattle.ftl_grammar.specs.declared.syntax.rules.Child.{Child}
use Rattle.ftl_grammar.specs.declared.syntax.rules.Target.TheVariants as targets
use Rattle.ftl_grammar.specs.declared.syntax.rules.Body.{Body}
use Rattle.ftl_grammar.specs.declared.syntax.rules.Body.TheVariants as bodies
use Rattle.ftl_grammar.specs.declared.syntax.rules.Rule.{Rule}
use Rattle.ftl_grammar.specs.syntax.Trees as trees
use Rattle.ftl_grammar.specs.syntax.Trees.{NameText}
use Rattle.ftl_grammar.specs.syntax.Spelling.{SpellsExpr, plain_sum, if_then_else}
use Rattle.ftl_grammar.specs.syntax.GrammarSpelling.{SpellsChild, SpellsOwnBody, SpellsChildBody, SpellsRule, SpellsRules}
use Rattle.ftl_grammar.specs.syntax.GrammarSpelling.{single, list, own_plain, child_plain, own_rule, child_rule, no_rules}
use Rattle.ftl_grammar.specs.syntax.GrammarSpelling.{more_rules}
use Rattle.ftl_grammar.specs.syntax.GrammarSpelling as spelling
use Rattle.ftl_grammar.specs.syntax.GrammarReading as reading
use Rattle.ftl_grammar.specs.syntax.GrammarReading.{own_body_by, own_body, child_body_by, child_body, rule_by, named_by, named}
use Rattle.ftl_grammar.specs.syntax.GrammarReading.{member_by, member}
use Rattle.ftl_grammar.proofs.syntax.Parts.{dot_name_of}
use Rattle.ftl_grammar.proofs.syntax.RuleParts.{single_rest, list_rest, FoldRest, fold_rest, FirstRest, first_rest, OwnRuleRest}
use Rattle.ftl_grammar.proofs.syntax.RuleParts.{own_rule_rest, ChildRuleRest, child_rule_rest, ChildRule, child_rule_of}
use Rattle.ftl_grammar.proofs.syntax.Heads.{Looser, form, list_part, Later, height, past_plain, past_name}
use Rattle.ftl_grammar.proofs.syntax.Begins.{sum_begins}
use Rattle.ftl_grammar.proofs.syntax.ReadWent.{dot_name_went}
use Rattle.ftl_grammar.proofs.syntax.InterfaceWent.{child_went}
use Rattle.ftl_grammar.proofs.syntax.Lengths.{some_rule, some_child, some_child_rule}

-- ---- what stands where no case of its own does

-- the first token begins an expression
abbrev pub begins_expr : Option Kind → ℕ
begins_expr (Some kind.If) = 0
begins_expr k = form k

expr_begins : {a : Tokens} {x : Expr} → SpellsExpr a x → (rest : Tokens) → begins_expr (next_kind (a ++ rest)) ≤ 3
unfolding next_kind
expr_begins (plain_sum {a = a} s) rest = lower (next_kind (a ++ rest)) (sum_begins s rest)
  where
    lower : (k : Option Kind) → form k ≤ 3 → begins_expr k ≤ 3
    lower (Some kind.If) e = omega arith
    lower _ e = e
expr_begins (if_then_else s t u) rest = omega arith

own_body_other : (expr : Reader Expr) (k : Option Kind) → begins_expr k ≤ 3
    → own_body_by expr k ≡ (bodies.Plain <$> expr)
own_body_other expr (Some kind.Fold) e = absurd (omega arith)
own_body_other expr _ e = refl

child_body_other : (expr : Reader Expr) (k : Option Kind) → begins_expr k ≤ 3
    → child_body_by expr k ≡ (bodies.Plain <$> expr)
child_body_other expr (Some kind.First) e = absurd (omega arith)
child_body_other expr _ e = refl

rule_other : (expr : Reader Expr) (k : Option Kind) → list_part k < 2 → rule_by expr k ≡ pure None
rule_other expr (Some kind.SelfWord) e = absurd (omega arith)
rule_other expr (Some kind.Name) e = absurd (omega arith)
rule_other expr _ e = refl

member_other : (expr : Reader Expr) (k : Option Kind) → list_part k < 3 → member_by expr k ≡ pure Stop
member_other expr (Some kind.Name) e = absurd (omega arith)
member_other expr _ e = refl

-- what may follow the children and the rule that ended them
abbrev pub AfterMembers : Option Rule → Tokens → Type 0
AfterMembers None rest = Later 3 rest
AfterMembers (Some x) rest = Unit {0}

module _ {expr : Reader Expr} {n : ℕ} (expr_went : Complete height (suc n) (suc n) (Looser 4) SpellsExpr expr) where
  fold_went : {a : Tokens} {x : Body} → FoldRest a x → (rest : Tokens) → Looser 4 rest → height (a ++ rest) < suc n
      → Went height (reading.fold expr) (a ++ rest) x rest (suc n)
  unfolding reading.fold next_kind
  fold_went (fold_rest {c = c} {a = a} {b = b} {x = x} {y = y} s t) rest looser small =
      let more = (a ++ (fixed kind.With ∷ b)) ++ rest in
      went_name (λ l. expect kind.From >>
      (expr >>= (λ u. expect kind.With >> (expr >>= (λ v. pure (bodies.Fold l u v))))))
      (went_past kind.From
      (went_grouped (a ++ (fixed kind.With ∷ (b ++ rest))) (append_assoc a (fixed kind.With ∷ b) rest)
      (past_plain kind.From refl more (past_name c (fixed kind.From ∷ more) small))
      (λ small. went_bind (λ u. expect kind.With >> (expr >>= (λ v. pure (bodies.Fold c u v))))
      (expr_went.went s (fixed kind.With ∷ (b ++ rest)) (omega arith) small)
      (λ small. went_past kind.With
      (went_map (λ v. bodies.Fold c x v)
      (expr_went.went t rest looser (past_plain kind.With refl (b ++ rest) small)))))))

  own_body_went : {a : Tokens} {x : Body} → SpellsOwnBody a x → (rest : Tokens) → Looser 4 rest
      → height (a ++ rest) < suc n
      → Went height (own_body expr) (a ++ rest) x rest (suc n)
  unfolding own_body next_kind
  own_body_went (own_plain {a = a} s) rest looser small =
      went_by (own_body_by expr) (own_body_other expr (next_kind (a ++ rest)) (expr_begins s rest))
      (went_map bodies.Plain (expr_went.went s rest looser small))
  own_body_went (spelling.fold s t) rest looser small =
      went_by (own_body_by expr) refl
      (went_skip (fold_went (fold_rest s t) rest looser (past_plain kind.Fold refl _ small)))

  first_then_went : {a : Tokens} {x : Body} → FirstRest a x → (rest : Tokens) → Looser 4 rest
      → height (a ++ rest) < suc n
      → Went height (reading.first_then expr) (a ++ rest) x rest (suc n)
  unfolding reading.first_then next_kind
  first_then_went (first_rest {a = a} {b = b} {x = x} {y = y} s t) rest looser small =
      went_grouped (a ++ (fixed kind.Then ∷ (b ++ rest))) (append_assoc a (fixed kind.Then ∷ b) rest) small
      (λ small. went_bind (λ u. expect kind.Then >> (expr >>= (λ v. pure (bodies.FirstThen u v))))
      (expr_went.went s (fixed kind.Then ∷ (b ++ rest)) (omega arith) small)
      (λ small. went_past kind.Then
      (went_map (λ v. bodies.FirstThen x v)
      (expr_went.went t rest looser (past_plain kind.Then refl (b ++ rest) small)))))

  child_body_went : {a : Tokens} {x : Body} → SpellsChildBody a x → (rest : Tokens) → Looser 4 rest
      → height (a ++ rest) < suc n
      → Went height (child_body expr) (a ++ rest) x rest (suc n)
  unfolding child_body next_kind
  child_body_went (child_plain {a = a} s) rest looser small =
      went_by (child_body_by expr) (child_body_other expr (next_kind (a ++ rest)) (expr_begins s rest))
      (went_map bodies.Plain (expr_went.went s rest looser small))
  child_body_went (spelling.first_then s t) rest looser small =
      went_by (child_body_by expr) refl
      (went_skip (first_then_went (first_rest s t) rest looser (past_plain kind.First refl _ small)))

  own_rule_went : {a : Tokens} {x : Rule} → OwnRuleRest a x → (rest : Tokens) → height (a ++ rest) < suc n
      → Went height (reading.own_rule expr) (a ++ rest) x rest (suc n)
  unfolding reading.own_rule next_kind
  own_rule_went (own_rule_rest {n = d} {a = a} {x = x} s) rest small =
      let more = (a ++ (fixed kind.Semicolon ∷ [])) ++ rest in
      went_bind (λ l. expect kind.Assign >>
      (own_body expr >>= (λ y. expect kind.Semicolon >> pure (trees.rule (targets.Own l) y))))
      (dot_name_went dot_name_of (fixed kind.Assign ∷ more) small)
      (λ small. went_past kind.Assign
      (went_grouped (a ++ (fixed kind.Semicolon ∷ rest)) (append_assoc a (fixed kind.Semicolon ∷ []) rest)
      (past_plain kind.Assign refl more small)
      (λ small. went_bind (λ y. expect kind.Semicolon >> pure (trees.rule (targets.Own d) y))
      (own_body_went s (fixed kind.Semicolon ∷ rest) (omega arith) small)
      (λ small. went_past kind.Semicolon (went_pure (past_plain kind.Semicolon refl rest small))))))

  child_rule_went : {c : NameText} {a : Tokens} {x : Rule} → ChildRuleRest c a x → (rest : Tokens)
      → height (a ++ rest) < suc n
      → Went height (reading.child_rule expr c) (a ++ rest) x rest (suc n)
  unfolding reading.child_rule next_kind
  child_rule_went {c} (child_rule_rest {n = d} {a = a} {x = x} s) rest small =
      let more = (a ++ (fixed kind.Semicolon ∷ [])) ++ rest in
      went_bind (λ l. expect kind.Assign >>
      (child_body expr >>= (λ y. expect kind.Semicolon >> pure (trees.rule (targets.Of c l) y))))
      (dot_name_went dot_name_of (fixed kind.Assign ∷ more) small)
      (λ small. went_past kind.Assign
      (went_grouped (a ++ (fixed kind.Semicolon ∷ rest)) (append_assoc a (fixed kind.Semicolon ∷ []) rest)
      (past_plain kind.Assign refl more small)
      (λ small. went_bind (λ y. expect kind.Semicolon >> pure (trees.rule (targets.Of c d) y))
      (child_body_went s (fixed kind.Semicolon ∷ rest) (omega arith) small)
      (λ small. went_past kind.Semicolon (went_pure (past_plain kind.Semicolon refl rest small))))))

  rule_went : {a : Tokens} {x : Rule} → SpellsRule a x → (rest : Tokens) → height (a ++ rest) < suc n
      → Went height (reading.rule expr) (a ++ rest) (Some x) rest (suc n)
  unfolding reading.rule next_kind
  rule_went (own_rule s) rest small =
      went_by (rule_by expr) refl
      (went_skip (went_map Some (own_rule_went (own_rule_rest s) rest (past_plain kind.SelfWord refl _ small))))
  rule_went (child_rule {c = c} s) rest small =
      went_by (rule_by expr) refl
      (went_name (λ l. Some <$> reading.child_rule expr l)
      (went_map Some (child_rule_went (child_rule_rest s) rest (past_name c _ small))))

  rule_stops : (rest : Tokens) → Later 2 rest → reading.rule expr rest ≡ got None rest
  unfolding reading.rule
  rule_stops rest e = ap (λ p. p rest) (rule_other expr (next_kind rest) e)

  pub rules_went : CompleteItem height (suc n) (Later 2) (λ rest. Unit {0}) SpellsRule (reading.rule expr)
  rules_went = record {
    found = λ s rest follows small. rule_went s rest small;
    stops = rule_stops;
    begins = λ s rest. tt;
    ends = λ rest e. tt;
    some = some_rule;
  }

  -- ---- children and rules

  next_went : {a : Tokens} {x : Child} → SpellsChild a x → (rest : Tokens) → height (a ++ rest) < suc n
      → Went height (member expr) (a ++ rest) (Next x) rest (suc n)
  unfolding member named next_kind
  next_went (single {c = c} {n = d}) rest small =
      let end = name d ∷ fixed kind.Semicolon ∷ rest in
      went_by (member_by expr) refl
      (went_name (named expr)
      (went_by (named_by expr c) refl
      (went_skip (went_map Next
      (child_went c single_rest rest (past_plain kind.Colon refl end (past_name c (fixed kind.Colon ∷ end) small)))))))
  next_went (list {c = c} {n = d}) rest small =
      let end = fixed kind.LeftBracket ∷ name d ∷ fixed kind.RightBracket ∷ fixed kind.Semicolon ∷ rest in
      went_by (member_by expr) refl
      (went_name (named expr)
      (went_by (named_by expr c) refl
      (went_skip (went_map Next
      (child_went c list_rest rest (past_plain kind.Colon refl end (past_name c (fixed kind.Colon ∷ end) small)))))))

  last_went : {a : Tokens} {x : Rule} → ChildRule a x → (rest : Tokens) → height (a ++ rest) < suc n
      → Went height (member expr) (a ++ rest) (Last x) rest (suc n)
  unfolding member named next_kind
  last_went (child_rule_of {c = c} (child_rule_rest s)) rest small =
      went_by (member_by expr) refl
      (went_name (named expr)
      (went_by (named_by expr c) refl (went_map Last (child_rule_went (child_rule_rest s) rest (past_name c _ small)))))

  member_stops : (rest : Tokens) → Later 3 rest → member expr rest ≡ got Stop rest
  unfolding member
  member_stops rest e = ap (λ p. p rest) (member_other expr (next_kind rest) e)

  pub members_went : CompleteChainItem height (suc n) AfterMembers (λ rest. Unit {0}) SpellsChild ChildRule
      (member expr)
  members_went = record {
    found = λ s rest follows small. next_went s rest small;
    last = λ s rest follows small. last_went s rest small;
    stops = member_stops;
    begins = λ s rest. tt;
    begins_last = λ s rest. tt;
    ends = λ rest e. tt;
    some = some_child;
    some_last = some_child_rule;
  }

pub rules_chain : (found : List Rule) {b : Tokens} {xs : List Rule} → SpellsRules b xs
    → Chain push SpellsRule found b (found ++ xs)
rules_chain found no_rules = chain_none found
rules_chain found (more_rules {a = a} {b = b} {x = x} {xs = xs} s t) =
    chain_more a b x xs s (rules_chain (push found x) t)
