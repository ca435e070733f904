-- The place of a name that stands where it is expected.
use Rattle.std.proofs.Common.{◌≡◌, ℕ, zero, suc, ◌+◌, ◌-◌, ◌<◌, nat_lt, not, cond, sym, ◌∙◌, ap, subst, ⊎_elim, lt-ltb, arith, List, [], ◌∷◌, length, get_or, Contains, Some, None}
use Rattle.std.specs.List.{position, position_or_len}
use Rattle.std.specs.Str.{bytes_eq}
use Rattle.std.proofs.lemmas.List.{get_or-map, length-map}
use Rattle.std.proofs.lemmas.List.Elements.{Contains-get_or}
use Rattle.ftl_model.specs.lists.Lists.{AreDistinct}
use Rattle.ftl_grammar.specs.declared.syntax.rules.Class.{Class}
use Rattle.ftl_grammar.specs.declared.syntax.rules.Grammar.{Grammar}
use Rattle.ftl_meaning.specs.faults.Checked.{class_named}
use Rattle.ftl_meaning.specs.faults.FirstFault as grammars
use Rattle.ftl_meaning.specs.faults.Numbering.{class_names}
use Rattle.ftl_document.specs.syntax.Written.{NameText}
use Rattle.ftl_document.specs.faults.FirstFault.{input_names, needed_names}
use Rattle.ftl_document.specs.faults.Nodes.{child_by, child_number, number_or_zero}
use Rattle.ftl_document.proofs.faults.ChildNames.{class_names_once}
use Rattle.ftl_document.proofs.fields.PlacedNames.{ChildAt, InputAt, at_none, at_place, is_at}
use Rattle.ftl_document.proofs.fields.PlaceFaults.{same_at}
use Rattle.ftl_meaning.proofs.names.Names.{name_itself, names_differ}

-- each of names that differ has its own place
pub own_place : (names : List NameText) (i : ℕ) → AreDistinct names → i < length names
    → position_or_len (bytes_eq (get_or names i [])) names ≡ i
own_place [] i differ below = absurd (let z : ⊥ = omega (arith, below) in z)
own_place (x ∷ names) zero differ below =
    ap (λ b. cond (not b) (1 + position_or_len (bytes_eq x) names) 0) (name_itself x)
own_place (x ∷ names) (suc i) differ below =
    let within : i < length names = omega (arith, below) in
    let name = get_or names i [] in
    ap (λ b. cond (not b) (1 + position_or_len (bytes_eq name) names) 0)
    (names_differ name x (λ same. differ.0 (subst (Contains names) same (Contains-get_or names i [] within))))
    ∙ ap (λ n. 1 + n) (own_place names i differ.1 within) ∙ (let z : 1 + i ≡ suc i = omega arith in z)

-- a name that stands at a place is found there
pub found_there : (names : List NameText) (i : ℕ) (name d : NameText) → AreDistinct names → i < length names
    → get_or names i d ≡ name → position (bytes_eq name) names ≡ Some i
found_there names i name d differ below is =
    ap (λ n. position (bytes_eq n) names) (sym is ∙ same_at names i d [] below)
    ∙ ap (λ l. cond (nat_lt l (length names)) (Some l) None) (own_place names i differ below)
    ∙ ap (λ b. cond b (Some i) None) (lt-ltb i (length names) below)

-- and so is a class
pub class_there : (g : Grammar) → grammars.first_fault g ≡ None → (k : ℕ) (name text : NameText) (classes : List Class) (d : Class)
    → classes ≡ g.classes → k < length classes → text ≡ (get_or classes k d).name → text ≡ name
    → Some k ≡ class_named g name
class_there g lawful k name text classes d all below called same =
    let within : k < length g.classes = subst (λ (xs : List Class). k < length xs) all below in
    let here : get_or (class_names g) k [] ≡ name =
    get_or-map (λ (x : Class). x.name) g.classes k d [] within
    ∙ ap (λ (xs : List Class). (get_or xs k d).name) (sym all) ∙ sym called ∙ same in
    sym
    (found_there (class_names g) k name [] (class_names_once g lawful)
    (subst (λ n. k < n) (sym (length-map g.classes (λ (x : Class). x.name))) within) here)

-- what stands at a place is a child by the place behind the inputs, or none
module _ (g : Grammar) (lawful : grammars.first_fault g ≡ None) (k : ℕ) (known : k < length g.classes) (name : NameText) where
  pub child_there : (i : ℕ) → position (bytes_eq name) (needed_names g k) ≡ Some i
      → i - length (input_names g k) ≡ child_number g k name
  child_there i found =
      ⊎_elim
      (λ (a : InputAt g k i name).
      let below = a.below in
      (let z : i - length (input_names g k) ≡ 0 = omega (arith, below) in z)
      ∙ sym (ap (λ o. number_or_zero (child_by o)) a.stands))
      (λ (a : ChildAt g k i name). sym (ap (λ o. number_or_zero (child_by o)) a.stands))
      (at_place g lawful k known name i (is_at g lawful k known name i found))

  pub no_child : position (bytes_eq name) (needed_names g k) ≡ None → 0 ≡ child_number g k name
  no_child none = sym (ap (λ o. number_or_zero (child_by o)) (at_none g lawful k known name none))
