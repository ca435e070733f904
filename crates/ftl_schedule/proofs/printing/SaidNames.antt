-- The names of a grammar that was read from a text can be said.
use Rattle.std.proofs.Common.{◌≡◌, ℕ, ◌+◌, ◌-◌, ◌<◌, Bool, true, false, cond, List, [], ◌∷◌, ◌++◌, length, get_or, flat_map, refl, sym, ap, subst, arith, take, ⊎_elim, Contains}
use Rattle.std.specs.Prelude.{Ok}
use Rattle.std.proofs.lemmas.List.Elements.{Contains-get_or}
use Rattle.ftl_model.proofs.lists.Elements.{in_cases, nothing_in}
use Rattle.ftl_tokens.specs.declared.scanner.kind.Kind.TheVariants as kind
use Rattle.ftl_tokens.specs.scanner.Tokenized.{Tokenized, fixed, name}
use Rattle.ftl_tokens.specs.reading.Reader.{Tokens}
use Rattle.ftl_tokens.proofs.scanner.TokenLemmas.{are_tokens_of}
use Rattle.ftl_grammar.specs.syntax.Trees as trees
use Rattle.ftl_grammar.specs.declared.syntax.rules.AttrDecl.{AttrDecl}
use Rattle.ftl_grammar.specs.declared.syntax.rules.AttrKind.TheVariants as kinds
use Rattle.ftl_grammar.specs.declared.syntax.rules.Grammar.{Grammar}
use Rattle.ftl_grammar.specs.printing.GrammarTokens.{attr_tokens, child_tokens, class_tokens, grammar_tokens, interface_tokens}
use Rattle.ftl_grammar.specs.printing.GrammarTokens.{rule_tokens, shown_tokens}
use Rattle.ftl_grammar.specs.reading.Printed.{IsScanned}
use Rattle.ftl_grammar.specs.reading.Read.{ReadsGrammar}
use Rattle.ftl_grammar.proofs.printing.CanonicalTexts.{tokens_said}
use Rattle.ftl_grammar.proofs.printing.Levels.{Each, each-left, each-right}
use Rattle.ftl_grammar.proofs.printing.SpelledAttrs.{Said}
use Rattle.ftl_grammar.proofs.printing.SpelledGrammars.{grammar_canonical}
use Rattle.ftl_meaning.specs.faults.Checked.{Declared, all_attributes, attribute_at}
use Rattle.ftl_meaning.specs.faults.Numbering.{class_at, interface_at, own_count, shared_count}
use Rattle.ftl_checked.proofs.lookup.Standing.{IsOwn, IsShared, own_is_in, shared_is_in}
use Rattle.ftl_schedule.specs.text.ScheduleText.{HasNames}
use Rattle.ftl_schedule.specs.printing.WrittenOf.{name_of}

-- what is said of all lists, one after another, is said of each
pub each_of : {X Y : Type 0} (P : Y → Type 0) (f : X → List Y) (xs : List X) → Each P (flat_map f xs) → (x : X)
    → Contains xs x → Each P (f x)
each_of P f [] said x there = absurd (nothing_in x there)
each_of P f (y ∷ ys) said x there =
    ⊎_elim (λ same. subst (λ z. Each P (f z)) same (each-left P (f y) (flat_map f ys) said))
    (λ later. each_of P f ys (each-right P (f y) (flat_map f ys) said) x later) (in_cases y x ys there)

abbrev pub no_attribute : AttrDecl
no_attribute = trees.attr_decl kinds.Inh []

module _ (g : Grammar) (said : Each Said (grammar_tokens g)) where
  declarations : Each Said (flat_map interface_tokens g.interfaces ++ flat_map class_tokens g.classes)
  declarations = said.1.1.1

  interface_said : (i : ℕ) → i < length g.interfaces → Each Said (interface_tokens (interface_at g i))
  interface_said i within =
      each_of Said interface_tokens g.interfaces
      (each-left Said (flat_map interface_tokens g.interfaces) (flat_map class_tokens g.classes) declarations)
      (interface_at g i) (Contains-get_or g.interfaces i (trees.interface [] [] []) within)

  class_said : (k : ℕ) → k < length g.classes → Each Said (class_tokens (class_at g k))
  class_said k within =
      each_of Said class_tokens g.classes
      (each-right Said (flat_map interface_tokens g.interfaces) (flat_map class_tokens g.classes) declarations)
      (class_at g k) (Contains-get_or g.classes k (trees.class [] [] [] [] []) within)

  -- an attribute among those of its owner
  attribute_said : (attrs : List AttrDecl) (rest : Tokens) → Each Said (flat_map attr_tokens attrs ++ rest) → (place : ℕ)
      → place < length attrs → Said (name (get_or attrs place no_attribute).name)
  attribute_said attrs rest all place within =
      (each_of Said attr_tokens attrs (each-left Said (flat_map attr_tokens attrs) rest all)
      (get_or attrs place no_attribute) (Contains-get_or attrs place no_attribute within)).1.0

  abbrev here : ℕ → Declared
  here a = attribute_at g a

  shared_said : (a : ℕ) → IsShared g (here a).owner a no_attribute
      → Said (name (interface_at g (here a).owner).name) × Said (name (here a).decl.name)
  shared_said a at =
      let x = interface_at g (here a).owner in
      let tokens = interface_said (here a).owner at.owner_within in
      let after = at.after in
      let before = at.before in
      let start = shared_count (take (here a).owner g.interfaces) in
      let within : a - start < length x.attrs = omega (arith, after, before) in (
        tokens.1.0,
        subst (λ (d : AttrDecl). Said (name d.name)) (sym at.is)
            (attribute_said x.attrs (shown_tokens x.shown ++ (fixed kind.RightBrace ∷ [])) tokens.1.1.1 (a - start) within),
      )

  own_said : (a : ℕ) → IsOwn g (here a).owner a no_attribute
      → Said (name (class_at g (here a).owner).name) × Said (name (here a).decl.name)
  own_said a at =
      let x = class_at g (here a).owner in
      let tokens = class_said (here a).owner at.owner_within in
      let after = at.after in
      let before = at.before in
      let start = shared_count g.interfaces + own_count (take (here a).owner g.classes) in
      let within : a - start < length x.attrs = omega (arith, after, before) in (
        tokens.1.0,
        subst (λ (d : AttrDecl). Said (name d.name)) (sym at.is)
            (attribute_said x.attrs
            (flat_map child_tokens x.children ++ (flat_map rule_tokens x.rules ++ (fixed kind.RightBrace ∷ [])))
            tokens.1.1.1.1.1 (a - start) within),
      )

  names_said : (a : ℕ) → a < length (all_attributes g) → HasNames (name_of g a)
  names_said a within = by_owner (here a).of_class refl
    where
      by_owner : (b : Bool) → (here a).of_class ≡ b → HasNames (name_of g a)
      by_owner true is =
          let both = own_said a (own_is_in g no_attribute a (here a).owner within refl is) in
          subst (λ n. Said (name n) × Said (name (here a).decl.name))
          (sym (ap (λ b. cond b (class_at g (here a).owner).name (interface_at g (here a).owner).name) is)) both
      by_owner false is =
          let both = shared_said a (shared_is_in g no_attribute a (here a).owner within refl is) in
          subst (λ n. Said (name n) × Said (name (here a).decl.name))
          (sym (ap (λ b. cond b (class_at g (here a).owner).name (interface_at g (here a).owner).name) is)) both

-- those of a grammar that was read
pub read_names_said : (scanned : Tokenized) (g : Grammar) → IsScanned scanned → ReadsGrammar scanned (Ok g) → (a : ℕ)
    → a < length (all_attributes g) → HasNames (name_of g a)
read_names_said scanned g is read a within =
    let said =
    tokens_said scanned.text 0 scanned.tokens is.utf8
    (are_tokens_of 2147483647 scanned.text scanned.tokens is.utf8 is.tokens) in
    names_said g (grammar_canonical read.spells said read.shallow).said a within
