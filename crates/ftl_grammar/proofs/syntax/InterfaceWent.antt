-- Names, attributes, interfaces and children are read whole: `x_went` by the reader `x`.
use Rattle.std.proofs.Common.{◌≡◌, ℕ, suc, ◌<◌, true, false, List, [], ◌∷◌, ◌++◌, map, Option, Some, None, refl, sym}
use Rattle.std.proofs.Common.{ap, subst, append_assoc, append-nil, arith}
use Rattle.ftl_tokens.specs.declared.scanner.kind.Kind.{Kind}
use Rattle.ftl_tokens.specs.declared.scanner.kind.Kind.TheVariants as kind
use Rattle.ftl_tokens.specs.scanner.Tokenized.{name, fixed}
use Rattle.ftl_tokens.specs.reading.Reader.{Tokens, ◌>>=◌, ◌>>◌, pure, next_kind, expect, push, chain_of}
use Rattle.ftl_tokens.proofs.reading.ChainPrefix.{Chain, none, more, chain_none, chain_more}
use Rattle.ftl_tokens.proofs.reading.Went.{got, Went, went_bind, went_map, went_pure, went_past, went_skip, went_name, went_by}
use Rattle.ftl_tokens.proofs.reading.Went.{went_grouped}
use Rattle.ftl_tokens.proofs.reading.ChainWent.{CompleteItem, chain_went}
use Rattle.ftl_grammar.specs.declared.syntax.rules.AttrKind.{AttrKind}
use Rattle.ftl_grammar.specs.declared.syntax.rules.AttrKind.TheVariants as attr
use Rattle.ftl_grammar.specs.declared.syntax.rules.AttrDecl.{AttrDecl}
use Rattle.ftl_grammar.specs.declared.syntax.rules.Interface.{Interface}
use Rattle.ftl_grammar.specs.declared.syntax.rules.Child.{Child}
use Rattle.ftl_grammar.specs.syntax.Trees as trees
use Rattle.ftl_grammar.specs.syntax.Trees.{NameText}
use Rattle.ftl_grammar.specs.syntax.GrammarSpelling.{SpellsNames, SpellsAttrGroup, SpellsAttrs, SpellsShown, SpellsOwnAttrGroup}
use Rattle.ftl_grammar.specs.syntax.GrammarSpelling.{SpellsOwnAttrs, one_name, more_names, inh_group, syn_group, input_group}
use Rattle.ftl_grammar.specs.syntax.GrammarSpelling.{no_attrs, more_attrs, none_shown, some_shown, own_input_group}
use Rattle.ftl_grammar.specs.syntax.GrammarSpelling.{own_local_group, no_own_attrs, more_own_attrs}
use Rattle.ftl_grammar.specs.syntax.InterfaceReading.{comma_name_by, comma_name, names, name_line, attr_group, attrs_by, attrs}
use Rattle.ftl_grammar.specs.syntax.InterfaceReading.{own_attrs_by, own_attrs, append, shown_by, shown, interface, list_child}
use Rattle.ftl_grammar.specs.syntax.InterfaceReading.{single_child, child_by, child}
use Rattle.ftl_grammar.proofs.syntax.RuleParts.{CommaName, comma_name_of, NameLine, name_line_of, InterfaceRest, interface_rest}
use Rattle.ftl_grammar.proofs.syntax.RuleParts.{ChildRest, single_rest, list_rest}
use Rattle.ftl_grammar.proofs.syntax.Heads.{list_part, Later, height, past_plain, past_bracket, past_end_bracket, past_name}
use Rattle.ftl_grammar.proofs.syntax.Lengths.{some_comma_name, some_attrs, some_own_attrs}

-- ---- what stands where no case of its own does

comma_name_other : (k : Option Kind) → list_part k < 6 → comma_name_by k ≡ pure None
comma_name_other (Some kind.Comma) e = absurd (omega arith)
comma_name_other _ e = refl

attrs_other : (k : Option Kind) → list_part k < 5 → attrs_by k ≡ pure None
attrs_other (Some kind.Inh) e = absurd (omega arith)
attrs_other (Some kind.Syn) e = absurd (omega arith)
attrs_other (Some kind.Input) e = absurd (omega arith)
attrs_other _ e = refl

own_attrs_other : (k : Option Kind) → list_part k < 5 → own_attrs_by k ≡ pure None
own_attrs_other (Some kind.Input) e = absurd (omega arith)
own_attrs_other (Some kind.Local) e = absurd (omega arith)
own_attrs_other _ e = refl

shown_other : (k : Option Kind) → list_part k < 4 → shown_by k ≡ pure []
shown_other (Some kind.Show) e = absurd (omega arith)
shown_other _ e = refl

-- ---- names

comma_name_went : {n : ℕ} {a : Tokens} {x : NameText} → CommaName a x → (rest : Tokens) → height (a ++ rest) < n
    → Went height comma_name (a ++ rest) (Some x) rest n
unfolding comma_name next_kind
comma_name_went (comma_name_of {n = x}) rest small =
    went_by comma_name_by refl
    (went_skip (went_name (λ y. pure (Some y))
    (went_pure (past_name x rest (past_plain kind.Comma refl (name x ∷ rest) small)))))

comma_name_stops : (rest : Tokens) → Later 6 rest → comma_name rest ≡ got None rest
unfolding comma_name
comma_name_stops rest e = ap (λ p. p rest) (comma_name_other (next_kind rest) e)

comma_names_went : {n : ℕ} → CompleteItem height n (Later 6) (λ rest. Unit {0}) CommaName comma_name
comma_names_went = record {
  found = λ s rest follows small. comma_name_went s rest small;
  stops = comma_name_stops;
  begins = λ s rest. tt;
  ends = λ rest e. tt;
  some = some_comma_name;
}

-- names as their reader takes them: one, and those after commas
record SplitNames (a : Tokens) (ns : List NameText) : Type 0 where
  pub first : NameText
  pub more : Tokens
  pub split : a ≡ name first ∷ more
  pub items : List NameText
  pub all : ns ≡ first ∷ items
  pub chain : (found : List NameText) → Chain push CommaName found more (found ++ items)

split_names : {a : Tokens} {ns : List NameText} → SpellsNames a ns → SplitNames a ns
split_names (one_name {n = x}) =
    record { first = x; more = []; split = refl; items = []; all = refl; chain = λ found. chain_none found }
split_names (more_names {n = x} {a = a} {ns = ns} s) =
    let rest = split_names s in
    record {
      first = x;
      more = fixed kind.Comma ∷ name rest.first ∷ rest.more;
      split = ap (λ l. name x ∷ fixed kind.Comma ∷ l) rest.split;
      items = rest.first ∷ rest.items;
      all = ap (λ l. x ∷ l) rest.all;
      chain = λ found.
          chain_more (fixed kind.Comma ∷ name rest.first ∷ []) rest.more rest.first rest.items comma_name_of
          (rest.chain (push found rest.first));
    }

pub names_went : {n : ℕ} {a : Tokens} {ns : List NameText} → SpellsNames a ns → (rest : Tokens) → Later 6 rest
    → height (a ++ rest) < n
    → Went height names (a ++ rest) ns rest n
unfolding names
names_went {n} {a} {ns} s rest e small =
    let read = split_names s in
    subst (λ l. Went height names (a ++ rest) l rest n) (sym read.all)
    (went_grouped (name read.first ∷ (read.more ++ rest)) (ap (λ l. l ++ rest) read.split) small
    (λ small. went_name (λ x. chain_of push comma_name (x ∷ []))
    (chain_went comma_names_went (read.chain (read.first ∷ [])) rest e
    (past_name read.first (read.more ++ rest) small))))

name_line_went : {n : ℕ} {a : Tokens} {ns : List NameText} → NameLine a ns → (rest : Tokens) → height (a ++ rest) < n
    → Went height name_line (a ++ rest) ns rest n
unfolding name_line next_kind
name_line_went {n} (name_line_of {a = a} {ns = ns} s) rest small =
    went_grouped (a ++ (fixed kind.Semicolon ∷ rest)) (append_assoc a (fixed kind.Semicolon ∷ []) rest) small
    (λ small. went_bind (λ xs. expect kind.Semicolon >> pure xs)
    (names_went s (fixed kind.Semicolon ∷ rest) (omega arith) small)
    (λ small. went_past kind.Semicolon (went_pure (past_plain kind.Semicolon refl rest small))))

-- ---- attributes

attr_group_went : {n : ℕ} (k : AttrKind) {a : Tokens} {ns : List NameText} → SpellsNames a ns → (rest : Tokens)
    → height ((a ++ (fixed kind.Semicolon ∷ [])) ++ rest) < n
    → Went height (attr_group k) ((a ++ (fixed kind.Semicolon ∷ [])) ++ rest) (Some (map (trees.attr_decl k) ns)) rest n
unfolding attr_group
attr_group_went k s rest small =
    went_map (λ ns. Some (map (trees.attr_decl k) ns)) (name_line_went (name_line_of s) rest small)

attrs_went : {n : ℕ} {a : Tokens} {xs : List AttrDecl} → SpellsAttrGroup a xs → (rest : Tokens) → height (a ++ rest) < n
    → Went height attrs (a ++ rest) (Some xs) rest n
unfolding attrs next_kind
attrs_went (inh_group s) rest small =
    went_by attrs_by refl (went_skip (attr_group_went attr.Inh s rest (past_plain kind.Inh refl _ small)))
attrs_went (syn_group s) rest small =
    went_by attrs_by refl (went_skip (attr_group_went attr.Syn s rest (past_plain kind.Syn refl _ small)))
attrs_went (input_group s) rest small =
    went_by attrs_by refl (went_skip (attr_group_went attr.Input s rest (past_plain kind.Input refl _ small)))

attrs_stops : (rest : Tokens) → Later 5 rest → attrs rest ≡ got None rest
unfolding attrs
attrs_stops rest e = ap (λ p. p rest) (attrs_other (next_kind rest) e)

attr_groups_went : {n : ℕ} → CompleteItem height n (Later 5) (λ rest. Unit {0}) SpellsAttrGroup attrs
attr_groups_went = record {
  found = λ s rest follows small. attrs_went s rest small;
  stops = attrs_stops;
  begins = λ s rest. tt;
  ends = λ rest e. tt;
  some = some_attrs;
}

own_attrs_went : {n : ℕ} {a : Tokens} {xs : List AttrDecl} → SpellsOwnAttrGroup a xs → (rest : Tokens)
    → height (a ++ rest) < n
    → Went height own_attrs (a ++ rest) (Some xs) rest n
unfolding own_attrs next_kind
own_attrs_went (own_input_group s) rest small =
    went_by own_attrs_by refl (went_skip (attr_group_went attr.Input s rest (past_plain kind.Input refl _ small)))
own_attrs_went (own_local_group s) rest small =
    went_by own_attrs_by refl (went_skip (attr_group_went attr.Local s rest (past_plain kind.Local refl _ small)))

own_attrs_stops : (rest : Tokens) → Later 5 rest → own_attrs rest ≡ got None rest
unfolding own_attrs
own_attrs_stops rest e = ap (λ p. p rest) (own_attrs_other (next_kind rest) e)

pub own_groups_went : {n : ℕ} → CompleteItem height n (Later 5) (λ rest. Unit {0}) SpellsOwnAttrGroup own_attrs
own_groups_went = record {
  found = λ s rest follows small. own_attrs_went s rest small;
  stops = own_attrs_stops;
  begins = λ s rest. tt;
  ends = λ rest e. tt;
  some = some_own_attrs;
}

groups_none : {S : Tokens → List AttrDecl → Type 0} (found : List AttrDecl) → Chain append S found [] (found ++ [])
groups_none {S} found = subst (λ l. Chain append S found [] l) (sym (append-nil found)) none

groups_more : {S : Tokens → List AttrDecl → Type 0} (found : List AttrDecl) (a b : Tokens) (xs ys : List AttrDecl)
    → S a xs → Chain append S (found ++ xs) b ((found ++ xs) ++ ys)
    → Chain append S found (a ++ b) (found ++ (xs ++ ys))
groups_more {S} found a b xs ys s items =
    more s (subst (λ l. Chain append S (found ++ xs) b l) (append_assoc found xs ys) items)

attrs_chain : (found : List AttrDecl) {a : Tokens} {xs : List AttrDecl} → SpellsAttrs a xs
    → Chain append SpellsAttrGroup found a (found ++ xs)
attrs_chain found no_attrs = groups_none found
attrs_chain found (more_attrs {a = a} {b = b} {xs = xs} {ys = ys} s t) =
    groups_more found a b xs ys s (attrs_chain (found ++ xs) t)

pub own_attrs_chain : (found : List AttrDecl) {a : Tokens} {xs : List AttrDecl} → SpellsOwnAttrs a xs
    → Chain append SpellsOwnAttrGroup found a (found ++ xs)
own_attrs_chain found no_own_attrs = groups_none found
own_attrs_chain found (more_own_attrs {a = a} {b = b} {xs = xs} {ys = ys} s t) =
    groups_more found a b xs ys s (own_attrs_chain (found ++ xs) t)

-- ---- interfaces

shown_went : {n : ℕ} {a : Tokens} {ns : List NameText} → SpellsShown a ns → (rest : Tokens) → Later 4 rest
    → height (a ++ rest) < n
    → Went height shown (a ++ rest) ns rest n
unfolding shown next_kind
shown_went none_shown rest e small = went_by shown_by (shown_other (next_kind rest) e) (went_pure small)
shown_went (some_shown s) rest e small =
    went_by shown_by refl (went_skip (name_line_went (name_line_of s) rest (past_plain kind.Show refl _ small)))

shown_later : {b : Tokens} {ns : List NameText} → SpellsShown b ns → (rest : Tokens)
    → Later 5 ((b ++ (fixed kind.RightBrace ∷ [])) ++ rest)
unfolding next_kind
shown_later none_shown rest = omega arith
shown_later (some_shown s) rest = omega arith

pub interface_went : {n : ℕ} {a : Tokens} {x : Interface} → InterfaceRest a x → (rest : Tokens) → height (a ++ rest) < n
    → Went height interface (a ++ rest) x rest n
unfolding interface next_kind
interface_went {n} (interface_rest {n = d} {a = a} {b = b} {xs = xs} {ns = ns} s t) rest small =
    let close = b ++ (fixed kind.RightBrace ∷ []) in
    went_name
    (λ l. expect kind.LeftBrace >> (chain_of append attrs []
    >>= (λ ys. shown >>= (λ ms. expect kind.RightBrace >> pure (trees.interface l ys ms)))))
    (went_past kind.LeftBrace
    (went_grouped (a ++ (close ++ rest)) (append_assoc a close rest)
    (past_plain kind.LeftBrace refl ((a ++ close) ++ rest)
    (past_name d (fixed kind.LeftBrace ∷ ((a ++ close) ++ rest)) small))
    (λ small. went_bind (λ ys. shown >>= (λ ms. expect kind.RightBrace >> pure (trees.interface d ys ms)))
    (chain_went attr_groups_went (attrs_chain [] s) (close ++ rest) (shown_later t rest) small)
    (λ small. went_grouped (b ++ (fixed kind.RightBrace ∷ rest))
    (append_assoc b (fixed kind.RightBrace ∷ []) rest) small
    (λ small. went_bind (λ ms. expect kind.RightBrace >> pure (trees.interface d xs ms))
    (shown_went t (fixed kind.RightBrace ∷ rest) (omega arith) small)
    (λ small. went_past kind.RightBrace (went_pure (past_plain kind.RightBrace refl rest small))))))))

-- ---- children

pub child_went : {n : ℕ} (c : NameText) {a : Tokens} {x : Child} → ChildRest c a x → (rest : Tokens)
    → height (a ++ rest) < suc n
    → Went height (child c) (a ++ rest) x rest (suc n)
unfolding child single_child list_child next_kind
child_went {n} c (single_rest {n = d}) rest small =
    went_by (child_by c) refl
    (went_name (λ l. expect kind.Semicolon >> pure (trees.child c l false))
    (went_past kind.Semicolon
    (went_pure (past_plain kind.Semicolon refl rest (past_name d (fixed kind.Semicolon ∷ rest) small)))))
child_went {n} c (list_rest {n = d}) rest small =
    let end = fixed kind.Semicolon ∷ rest in
    went_by (child_by c) refl
    (went_skip
    (went_name (λ l. expect kind.RightBracket >> (expect kind.Semicolon >> pure (trees.child c l true)))
    (went_past kind.RightBracket
    (went_past kind.Semicolon
    (went_pure (past_plain kind.Semicolon refl rest
    (past_end_bracket end
    (past_name d (fixed kind.RightBracket ∷ end) (past_bracket (name d ∷ fixed kind.RightBracket ∷ end) small)))))))))
