-- Classes and grammars are read whole: `x_went` by the reader `x`.
use Rattle.std.proofs.Common.{◌≡◌, ℕ, suc, ◌<◌, List, [], ◌∷◌, ◌++◌, Option, Some, None, refl, sym, ap, ◌∙◌, subst}
use Rattle.std.proofs.Common.{append_assoc, append-nil, arith}
use Rattle.ftl_tokens.specs.declared.scanner.kind.Kind.{Kind}
use Rattle.ftl_tokens.specs.declared.scanner.kind.Kind.TheVariants as kind
use Rattle.ftl_tokens.specs.scanner.Tokenized.{name, fixed}
use Rattle.ftl_tokens.specs.reading.Reader.{Tokens, Reader, ◌>>=◌, ◌>>◌, pure, next_kind, expect, take_name, at_end, push}
use Rattle.ftl_tokens.specs.reading.Reader.{chain_of, until_of}
use Rattle.ftl_tokens.proofs.reading.ChainPrefix.{Chain, none, more, Until, stopped, ended, went_on}
use Rattle.ftl_tokens.proofs.reading.Went.{got, Went, Complete, went_bind, went_map, went_pure, went_past, went_skip}
use Rattle.ftl_tokens.proofs.reading.Went.{went_name, went_by, went_grouped}
use Rattle.ftl_tokens.proofs.reading.ChainWent.{CompleteItem, chain_went}
use Rattle.ftl_tokens.proofs.reading.UntilWent.{until_went}
use Rattle.ftl_grammar.specs.declared.syntax.expression.Expr.{Expr}
use Rattle.ftl_grammar.specs.declared.syntax.rules.Interface.{Interface}
use Rattle.ftl_grammar.specs.declared.syntax.rules.Child.{Child}
use Rattle.ftl_grammar.specs.declared.syntax.rules.Rule.{Rule}
use Rattle.ftl_grammar.specs.declared.syntax.rules.Class.{Class}
use Rattle.ftl_grammar.specs.declared.syntax.rules.Declaration.{Declaration}
use Rattle.ftl_grammar.specs.declared.syntax.rules.Declaration.TheVariants as declarations
use Rattle.ftl_grammar.specs.declared.syntax.rules.Grammar.{Grammar}
use Rattle.ftl_grammar.specs.syntax.Trees as trees
use Rattle.ftl_grammar.specs.syntax.Trees.{NameText}
use Rattle.ftl_grammar.specs.syntax.Spelling.{SpellsExpr}
use Rattle.ftl_grammar.specs.syntax.GrammarSpelling.{SpellsChild, SpellsChildren, SpellsRule, SpellsRules, SpellsDeclarations}
use Rattle.ftl_grammar.specs.syntax.GrammarSpelling.{SpellsGrammar, single, list, no_children, more_children, own_rule}
use Rattle.ftl_grammar.specs.syntax.GrammarSpelling.{child_rule, no_rules, more_rules, class_of, interface_of, no_declarations}
use Rattle.ftl_grammar.specs.syntax.GrammarSpelling.{interface_declared, class_declared, grammar_of}
use Rattle.ftl_grammar.specs.syntax.GrammarReading as reading
use Rattle.ftl_grammar.specs.syntax.GrammarReading.{member, list_of, class, declaration_by, declaration, add_declaration}
use Rattle.ftl_grammar.specs.syntax.GrammarReading.{grammar_level}
use Rattle.ftl_grammar.specs.syntax.InterfaceReading.{append, own_attrs}
use Rattle.ftl_grammar.proofs.syntax.RuleParts.{interface_rest, ChildRule, child_rule_of, child_rule_rest, ClassRest}
use Rattle.ftl_grammar.proofs.syntax.RuleParts.{class_rest, DeclarationOf, interface_of_declaration, class_of_declaration}
use Rattle.ftl_grammar.proofs.syntax.GrammarPrefix.{LastRule}
use Rattle.ftl_grammar.proofs.syntax.Heads as heads
use Rattle.ftl_grammar.proofs.syntax.Heads.{Looser, Later, height, past_plain, past_name}
use Rattle.ftl_grammar.proofs.syntax.InterfaceWent.{interface_went, own_groups_went, own_attrs_chain}
use Rattle.ftl_grammar.proofs.syntax.RuleWent.{AfterMembers, rules_went, members_went, rules_chain}
use Rattle.ftl_grammar.proofs.syntax.Lengths.{some_declaration}

declaration_other : (expr : Reader Expr) (k : Option Kind) → heads.list_part k < 1 → declaration_by expr k ≡ pure None
declaration_other expr (Some kind.Interface) e = absurd (omega arith)
declaration_other expr (Some kind.Class) e = absurd (omega arith)
declaration_other expr _ e = refl

-- ---- children and rules

-- rules as their readers take them: the first apart where it ends the children
record SplitRules (a : Tokens) (xs : List Rule) : Type 0 where
  pub last : Option Rule
  pub front : Tokens
  pub back : Tokens
  pub split : a ≡ front ++ back
  pub rule : LastRule last front
  pub chain : Chain push SpellsRule (list_of last) back xs
  pub after : (rest : Tokens) → Later 3 rest → AfterMembers last (back ++ rest)

-- each list of rules is split so
split_rules : {a : Tokens} {xs : List Rule} → SpellsRules a xs → SplitRules a xs
unfolding next_kind
split_rules no_rules =
    record { last = None; front = []; back = []; split = refl; rule = refl; chain = none; after = λ rest e. e }
split_rules (more_rules {b = b} (own_rule {n = d} {a = a} s) t) =
    record {
      last = None;
      front = [];
      back = _;
      split = refl;
      rule = refl;
      chain = rules_chain [] (more_rules (own_rule s) t);
      after = λ rest e. omega arith;
    }
split_rules (more_rules {a = a} {b = b} {x = x} (child_rule s) t) =
    record {
      last = Some x;
      front = a;
      back = b;
      split = refl;
      rule = child_rule_of (child_rule_rest s);
      chain = rules_chain (x ∷ []) t;
      after = λ rest e. tt;
    }

-- rules begin with a name or `self`
rules_later : {a : Tokens} {xs : List Rule} → SpellsRules a xs → (rest : Tokens) → Later 5 rest → Later 5 (a ++ rest)
unfolding next_kind
rules_later no_rules rest e = e
rules_later (more_rules (own_rule s) t) rest e = omega arith
rules_later (more_rules (child_rule s) t) rest e = omega arith

-- children begin with a name
children_later : {a : Tokens} {xs : List Child} → SpellsChildren a xs → (rest : Tokens) → Later 5 rest
    → Later 5 (a ++ rest)
unfolding next_kind
children_later no_children rest e = e
children_later (more_children single t) rest e = omega arith
children_later (more_children list t) rest e = omega arith

-- children, and what ends them, as their reader takes them
children_until : (found : List Child) (t : Tokens) (last : Option Rule) {a : Tokens} {xs : List Child}
    → SpellsChildren a xs → LastRule last t
    → Until push SpellsChild ChildRule found (a ++ t) (found ++ xs, last)
children_until found t None no_children e =
    subst (λ l. Until push SpellsChild ChildRule found l (found ++ [], None)) (sym e)
    (subst (λ l. Until push SpellsChild ChildRule found [] (l, None)) (sym (append-nil found)) stopped)
children_until found t (Some x) no_children s =
    subst (λ l. Until push SpellsChild ChildRule found t (l, Some x)) (sym (append-nil found)) (ended s)
children_until found t last (more_children {a = a} {b = b} {x = x} {xs = xs} s rest) e =
    subst (λ l. Until push SpellsChild ChildRule found l (found ++ (x ∷ xs), last)) (sym (append_assoc a b t))
    (went_on s
    (subst (λ l. Until push SpellsChild ChildRule (push found x) (b ++ t) (l, last)) (append_assoc found (x ∷ []) xs)
    (children_until (push found x) t last rest e)))

module _ {expr : Reader Expr} {n : ℕ} (expr_went : Complete height (suc n) (suc n) (Looser 4) SpellsExpr expr) where
  class_went : {a : Tokens} {x : Class} → ClassRest a x → (rest : Tokens) → height (a ++ rest) < suc n
      → Went height (class expr) (a ++ rest) x rest (suc n)
  unfolding class next_kind
  class_went (class_rest {n = d} {i = i} {a = a} {b = b} {c = c} {xs = xs} {ys = ys} {zs = zs} s t u) rest small =
      let split = split_rules u in
      let close = fixed kind.RightBrace ∷ rest in
      let members = b ++ (c ++ (fixed kind.RightBrace ∷ [])) in
      let head = (a ++ members) ++ rest in
      went_name
      (λ l. expect kind.Colon >> (take_name >>= (λ j. expect kind.LeftBrace >> (chain_of append own_attrs []
      >>= (λ us. until_of push (member expr) [] >>= (λ vs. chain_of push (reading.rule expr) (list_of vs.1)
      >>= (λ ws. expect kind.RightBrace >> pure (trees.class l j us vs.0 ws))))))))
      (went_past kind.Colon
      (went_name
      (λ j. expect kind.LeftBrace >> (chain_of append own_attrs []
      >>= (λ us. until_of push (member expr) [] >>= (λ vs. chain_of push (reading.rule expr) (list_of vs.1)
      >>= (λ ws. expect kind.RightBrace >> pure (trees.class d j us vs.0 ws))))))
      (went_past kind.LeftBrace
      (went_grouped (a ++ (b ++ (c ++ close)))
      (append_assoc a members rest ∙ ap (λ l. a ++ l)
      (append_assoc b (c ++ (fixed kind.RightBrace ∷ [])) rest ∙ ap (λ l. b ++ l)
      (append_assoc c (fixed kind.RightBrace ∷ []) rest)))
      (past_plain kind.LeftBrace refl head (past_name i (fixed kind.LeftBrace ∷ head)
      (past_plain kind.Colon refl (name i ∷ fixed kind.LeftBrace ∷ head)
      (past_name d (fixed kind.Colon ∷ name i ∷ fixed kind.LeftBrace ∷ head) small))))
      (λ small. went_bind
      (λ us. until_of push (member expr) [] >>= (λ vs. chain_of push (reading.rule expr) (list_of vs.1)
      >>= (λ ws. expect kind.RightBrace >> pure (trees.class d i us vs.0 ws))))
      (chain_went own_groups_went (own_attrs_chain [] s) (b ++ (c ++ close))
      (children_later t (c ++ close) (rules_later u close (omega arith))) small)
      (λ small. went_grouped ((b ++ split.front) ++ (split.back ++ close))
      (ap (λ l. b ++ (l ++ close)) split.split ∙ ap (λ l. b ++ l) (append_assoc split.front split.back close)
      ∙ sym (append_assoc b split.front (split.back ++ close)))
      small
      (λ small. went_bind
      (λ vs. chain_of push (reading.rule expr) (list_of vs.1)
      >>= (λ ws. expect kind.RightBrace >> pure (trees.class d i xs vs.0 ws)))
      (until_went (members_went expr_went) (children_until [] split.front split.last t split.rule)
      (split.back ++ close) (split.after close (omega arith)) small)
      (λ small. went_bind (λ ws. expect kind.RightBrace >> pure (trees.class d i xs ys ws))
      (chain_went (rules_went expr_went) split.chain close (omega arith) small)
      (λ small. went_past kind.RightBrace (went_pure (past_plain kind.RightBrace refl rest small)))))))))))

  declaration_went : {a : Tokens} {x : Declaration} → DeclarationOf a x → (rest : Tokens) → height (a ++ rest) < suc n
      → Went height (declaration expr) (a ++ rest) (Some x) rest (suc n)
  unfolding declaration next_kind
  declaration_went (interface_of_declaration (interface_of s t)) rest small =
      went_by (declaration_by expr) refl
      (went_skip (went_map (λ x. Some (declarations.Interface x))
      (interface_went (interface_rest s t) rest (past_plain kind.Interface refl _ small))))
  declaration_went (class_of_declaration (class_of s t u)) rest small =
      went_by (declaration_by expr) refl
      (went_skip (went_map (λ x. Some (declarations.Class x))
      (class_went (class_rest s t u) rest (past_plain kind.Class refl _ small))))

  declaration_stops : (rest : Tokens) → Later 1 rest → declaration expr rest ≡ got None rest
  unfolding declaration
  declaration_stops rest e = ap (λ p. p rest) (declaration_other expr (next_kind rest) e)

  declarations_went : CompleteItem height (suc n) (Later 1) (λ rest. Unit {0}) DeclarationOf (declaration expr)
  declarations_went = record {
    found = λ s rest follows small. declaration_went s rest small;
    stops = declaration_stops;
    begins = λ s rest. tt;
    ends = λ rest e. tt;
    some = some_declaration;
  }

  -- interfaces and classes as their reader takes them
  declarations_chain : (found : List Interface × List Class) {a : Tokens} {xs : List Interface} {ys : List Class}
      → SpellsDeclarations a xs ys
      → Chain add_declaration DeclarationOf found a (found.0 ++ xs, found.1 ++ ys)
  declarations_chain found no_declarations =
      subst (λ l. Chain add_declaration DeclarationOf found [] (l, found.1 ++ [])) (sym (append-nil found.0))
      (subst (λ l. Chain add_declaration DeclarationOf found [] (found.0, l)) (sym (append-nil found.1)) none)
  declarations_chain found (interface_declared {a = a} {b = b} {x = x} {xs = xs} {ys = ys} s t) =
      more (interface_of_declaration s)
      (subst (λ l. Chain add_declaration DeclarationOf (push found.0 x, found.1) b (l, found.1 ++ ys))
      (append_assoc found.0 (x ∷ []) xs)
      (declarations_chain (push found.0 x, found.1) t))
  declarations_chain found (class_declared {a = a} {b = b} {y = y} {xs = xs} {ys = ys} s t) =
      more (class_of_declaration s)
      (subst (λ l. Chain add_declaration DeclarationOf (found.0, push found.1 y) b (found.0 ++ xs, l))
      (append_assoc found.1 (y ∷ []) ys)
      (declarations_chain (found.0, push found.1 y) t))

  -- the tokens of a grammar are read to their end
  pub grammar_level_went : {a : Tokens} {x : Grammar} → SpellsGrammar a x → height a < suc n
      → Went height (grammar_level expr) a x [] (suc n)
  unfolding grammar_level next_kind at_end
  grammar_level_went (grammar_of {n = d} {a = a} {xs = xs} {ys = ys} s) small =
      went_past kind.Root
      (went_name
      (λ l. expect kind.Semicolon >> (chain_of add_declaration (declaration expr) ([], [])
      >>= (λ us. at_end >> pure (trees.grammar l us.0 us.1))))
      (went_past kind.Semicolon
      (went_grouped (a ++ []) (sym (append-nil a))
      (past_plain kind.Semicolon refl a (past_name d (fixed kind.Semicolon ∷ a)
      (past_plain kind.Root refl (name d ∷ fixed kind.Semicolon ∷ a) small)))
      (λ small. went_bind (λ us. at_end >> pure (trees.grammar d us.0 us.1))
      (chain_went declarations_went (declarations_chain ([], []) s) [] (omega arith) small)
      (λ small. record { reads = refl; small = small })))))
