-- What no fault says of each rule of a class.
use Rattle.std.proofs.Common.{◌≡◌, ℕ, zero, suc, ◌<◌, true, false, ◌==◌, refl, sym, ap, ap₂, subst, ⊎_elim, arith, eq-eqb, eqb-true, List, [], ◌∷◌, ◌++◌, take, flat_map, Contains, Option, Some, None, append_assoc}
use Rattle.std.specs.List.{AllByRecursion, All, list_any, slice_get}
use Rattle.std.specs.Option.{is_none, is_some, option_map, option_to_list}
use Rattle.std.proofs.lemmas.Bool.{and_from, and_parts, both_ways, false≢true, or_cases, or_left, or_right, true≢false}
use Rattle.std.proofs.lemmas.Option.{none-some, same_Some}
use Rattle.std.proofs.lemmas.List.{append-nil}
use Rattle.std.proofs.lemmas.List.Elements.{All-from_recursion, Contains-append_left, Contains-append_right}
use Rattle.ftl_model.specs.lists.Lists.{AreDistinct}
use Rattle.ftl_model.proofs.lists.Elements.{here_in, in_cases, later_in, nothing_in}
use Rattle.ftl_model.specs.layout.AttributeGrammar.{RuleName}
use Rattle.ftl_grammar.specs.declared.syntax.rules.Grammar.{Grammar}
use Rattle.ftl_grammar.specs.declared.syntax.rules.Rule.{Rule}
use Rattle.ftl_meaning.specs.formulas.Expressions.{formula_of}
use Rattle.ftl_meaning.specs.formulas.Formula.{reads_of}
use Rattle.ftl_meaning.specs.declared.faults.fault.GrammarFault.TheVariants as fault
use Rattle.ftl_meaning.specs.declared.faults.rule_name.RuleName as by_name
use Rattle.ftl_meaning.specs.faults.Allowed.{Leaf, leaf_of}
use Rattle.ftl_meaning.specs.faults.FirstFault.{bad_read, fault_if, first_of, form_fault, rule_fault, rule_faults, rule_name, same_slot}
use Rattle.ftl_meaning.specs.faults.Numbering.{class_at}
use Rattle.ftl_meaning.specs.faults.RuleForms.{Form, Slot, form_of, kid_slot, own_slot, parts_of, slot_of}
use Rattle.ftl_meaning.specs.grammars.GrammarOf.{name_of_rule}
use Rattle.ftl_meaning.specs.lawful.Kept.{EachReadIs}
use Rattle.ftl_meaning.proofs.lawful.NoFault.{no_fault, none_in, none_of}

-- ---- slots

-- slots that are the same by the test are equal
pub slot_is : (x y : Slot) → same_slot x y ≡ true → x ≡ y
slot_is (own_slot a) (own_slot b) h = ap own_slot (eqb-true a b h)
slot_is (own_slot a) (kid_slot d b) h = absurd (false≢true h)
slot_is (kid_slot c a) (own_slot b) h = absurd (false≢true h)
slot_is (kid_slot c a) (kid_slot d b) h =
    let parts = and_parts (c == d) (a == b) h in ap₂ kid_slot (eqb-true c d parts.0) (eqb-true a b parts.1)

-- and a slot passes the test with itself
pub slot_itself : (x : Slot) → same_slot x x ≡ true
slot_itself (own_slot a) = eq-eqb a a refl
slot_itself (kid_slot c a) = and_from (c == c) (a == a) (eq-eqb c c refl) (eq-eqb a a refl)

-- and with one among those that have it
pub slot_among : (x : Slot) (xs : List Slot) → Contains xs x → list_any (same_slot x) xs ≡ true
slot_among x [] h = absurd (nothing_in x h)
slot_among x (y ∷ ys) h =
    ⊎_elim
    (λ same. or_left (same_slot x y) (list_any (same_slot x) ys)
    (subst (λ z. same_slot x z ≡ true) (sym same) (slot_itself x)))
    (λ later. or_right (same_slot x y) (list_any (same_slot x) ys) (slot_among x ys later)) (in_cases y x ys h)

-- what is for a slot stands for it
pub is_slot : (slot : Slot) (o : Option Slot) → list_any (same_slot slot) (option_to_list o) ≡ true → o ≡ Some slot
is_slot slot None h = absurd (false≢true h)
is_slot slot (Some x) h =
    ⊎_elim (λ same. ap Some (sym (slot_is slot x same))) (λ none. absurd (false≢true none))
    (or_cases (same_slot slot x) false h)

-- what stands for a slot is for it
pub for_slot : (slot : Slot) (o : Option Slot) → o ≡ Some slot → list_any (same_slot slot) (option_to_list o) ≡ true
for_slot slot o h =
    subst (λ (o : Option Slot). list_any (same_slot slot) (option_to_list o) ≡ true) (sym h)
    (or_left (same_slot slot slot) false (slot_itself slot))

-- two slots with one name are one
pub one_name : (k : ℕ) (x y : Slot) → name_of_rule k x ≡ name_of_rule k y → x ≡ y
one_name k (own_slot a) (own_slot b) h = cc
one_name k (own_slot a) (kid_slot d b) h = absurd (let z : ⊥ = grind (arith, h) in z)
one_name k (kid_slot c a) (own_slot b) h = absurd (let z : ⊥ = grind (arith, h) in z)
one_name k (kid_slot c a) (kid_slot d b) h = ap₂ kid_slot (let z : c ≡ d = cc in z) (let z : a ≡ b = cc in z)

-- ---- one rule

-- a rule without a fault, where earlier ones have those slots
pub record IsRight (g : Grammar) (k : ℕ) (earlier : List Slot) (r : Rule) : Type 0 where
  pub slot : Slot
  pub is_for : slot_of g k r.target ≡ Some slot
  pub is_new : list_any (same_slot slot) earlier ≡ false
  pub form : Form
  pub has_form : form_of g k slot r.body ≡ Some form
  pub reads : EachReadIs g k form

some_leaf : (o : Option Leaf) → is_none o ≡ false → is_some o ≡ true
some_leaf None h = absurd (true≢false h)
some_leaf (Some x) h = refl

each_from : {X : Type 0} (P : X → Type 0) (xs : List X) → ((x : X) → Contains xs x → P x) → AllByRecursion P xs
each_from P [] h = tt
each_from P (x ∷ xs) h = (h x (here_in x xs), each_from P xs (λ y c. h y (later_in x y xs c)))

all_from : {X : Type 0} (P : X → Type 0) (xs : List X) → ((x : X) → Contains xs x → P x) → All P xs
all_from P xs h = All-from_recursion P xs (each_from P xs h)

module _ (g : Grammar) (k : ℕ) where
  good_reads : (rule : by_name.RuleName) (form : Form) → first_of (bad_read g k rule) (parts_of form) ≡ None
      → EachReadIs g k form
  good_reads rule form h =
      all_from (λ part. All (λ name. is_some (leaf_of g k part.0 name) ≡ true) (reads_of (formula_of part.1))) (parts_of form)
      (λ part in_it.
      all_from (λ name. is_some (leaf_of g k part.0 name) ≡ true) (reads_of (formula_of part.1))
      (λ name read.
      some_leaf (leaf_of g k part.0 name)
      (no_fault (is_none (leaf_of g k part.0 name)) (fault.BadRead rule name)
      (none_of (λ read. fault_if (is_none (leaf_of g k part.0 read)) (fault.BadRead rule read)) (reads_of (formula_of part.1))
      (none_of (bad_read g k rule) (parts_of form) h part in_it) name read))))

  -- a rule without a fault is right
  pub right_rule : (rule : by_name.RuleName) (earlier : List Slot) (r : Rule)
      → rule_fault g k rule earlier r.body (slot_of g k r.target) ≡ None → IsRight g k earlier r
  right_rule rule earlier r h = go (slot_of g k r.target) refl h
    where
      formed : (slot : Slot) → slot_of g k r.target ≡ Some slot → (o : Option Form) → form_of g k slot r.body ≡ o
          → form_fault g k rule (list_any (same_slot slot) earlier) o ≡ None → IsRight g k earlier r
      formed slot is None has h = absurd (none-some (fault.BadForm rule) (sym h))
      formed slot is (Some form) has h =
          let both =
          none_in
          (fault_if (list_any (same_slot slot) earlier) (fault.TwiceRuled rule)
          ∷ (first_of (bad_read g k rule) (parts_of form) ∷ [])) h in
          record {
            slot = slot;
            is_for = is;
            is_new = no_fault (list_any (same_slot slot) earlier) (fault.TwiceRuled rule) both.0;
            form = form;
            has_form = has;
            reads = good_reads rule form both.1.0;
          }

      go : (o : Option Slot) → slot_of g k r.target ≡ o → rule_fault g k rule earlier r.body o ≡ None
          → IsRight g k earlier r
      go None is h = absurd (none-some (fault.NotAssignable rule) (sym h))
      go (Some slot) is h = formed slot is (form_of g k slot r.body) refl h

  -- ---- the rules of a class

  -- what some rules are for
  abbrev pub slots_of : List Rule → List Slot
  slots_of rs = flat_map (λ (r : Rule). option_to_list (slot_of g k r.target)) rs

  -- the rule at a place, where those before it have their slots
  pub right_at : (earlier : List Slot) (rs : List Rule) → AllByRecursion (λ x. x ≡ None) (rule_faults g k earlier rs)
      → (n : ℕ) (r : Rule) → slice_get rs n ≡ Some r → IsRight g k (earlier ++ slots_of (take n rs)) r
  right_at earlier [] h n r is = absurd (none-some r is)
  right_at earlier (q ∷ qs) h zero r is =
      let same = same_Some q r is in
      subst (λ (p : Rule). IsRight g k (earlier ++ []) p) same
      (subst (λ (xs : List Slot). IsRight g k xs q) (sym (append-nil earlier))
      (right_rule (rule_name (class_at g k) q.target) earlier q h.0))
  right_at earlier (q ∷ qs) h (suc n) r is =
      subst (λ (xs : List Slot). IsRight g k xs r)
      (append_assoc earlier (option_to_list (slot_of g k q.target)) (slots_of (take n qs)))
      (right_at (earlier ++ option_to_list (slot_of g k q.target)) qs h.1 n r is)

  -- what a rule before a place is for is among the slots there
  pub earlier_slot : (rs : List Rule) (m n : ℕ) (q : Rule) (slot : Slot) → m < n → slice_get rs m ≡ Some q
      → slot_of g k q.target ≡ Some slot → Contains (slots_of (take n rs)) slot
  earlier_slot [] m n q slot before is stands = absurd (none-some q is)
  earlier_slot (p ∷ ps) m zero q slot before is stands = absurd (let z : ⊥ = omega (arith, before) in z)
  earlier_slot (p ∷ ps) zero (suc n) q slot before is stands =
      Contains-append_left (option_to_list (slot_of g k p.target)) (slots_of (take n ps)) slot
      (subst (λ (r : Rule). Contains (option_to_list (slot_of g k r.target)) slot) (sym (same_Some p q is))
      (subst (λ (o : Option Slot). Contains (option_to_list o) slot) (sym stands) (here_in slot [])))
  earlier_slot (p ∷ ps) (suc m) (suc n) q slot before is stands =
      Contains-append_right (option_to_list (slot_of g k p.target)) (slots_of (take n ps)) slot
      (earlier_slot ps m n q slot (omega (arith, before)) is stands)

  -- the names of some rules
  abbrev pub names_of_rules : List Rule → List RuleName
  names_of_rules rs = flat_map (λ (r : Rule). option_to_list (option_map (name_of_rule k) (slot_of g k r.target))) rs

  -- these names differ, from each other and from those of earlier slots
  abbrev Differ : (earlier : List Slot) → List RuleName → Type 0
  Differ earlier names =
      AreDistinct names × ((slot : Slot) → Contains earlier slot → Contains names (name_of_rule k slot) → ⊥)

  one_more : (earlier : List Slot) (names : List RuleName) (q : Rule) → IsRight g k earlier q
      → ((slot : Slot) → slot_of g k q.target ≡ Some slot → Differ (earlier ++ (slot ∷ [])) names)
      → Differ earlier (option_to_list (option_map (name_of_rule k) (slot_of g k q.target)) ++ names)
  one_more earlier names q right later =
      let rest = later right.slot right.is_for in
      subst (λ (o : Option Slot). Differ earlier (option_to_list (option_map (name_of_rule k) o) ++ names)) (sym right.is_for) (
        (
          rest.1 right.slot (Contains-append_right earlier (right.slot ∷ []) right.slot (here_in right.slot [])),
          rest.0,
        ),
        (λ slot c d.
            ⊎_elim
            (λ same.
            let found = slot_among right.slot earlier (subst (Contains earlier) (sym (one_name k right.slot slot same)) c) in
            absurd (both_ways (list_any (same_slot right.slot) earlier) right.is_new found))
            (λ more. rest.1 slot (Contains-append_left earlier (right.slot ∷ []) slot c) more)
            (in_cases (name_of_rule k right.slot) (name_of_rule k slot) names d)),
      )

  -- the names of rules without a fault differ
  pub names_differ : (earlier : List Slot) (rs : List Rule)
      → AllByRecursion (λ x. x ≡ None) (rule_faults g k earlier rs) → Differ earlier (names_of_rules rs)
  names_differ earlier [] h = (tt, (λ slot c d. nothing_in (name_of_rule k slot) d))
  names_differ earlier (q ∷ qs) h =
      one_more earlier (names_of_rules qs) q (right_rule (rule_name (class_at g k) q.target) earlier q h.0)
      (λ slot is. names_differ (earlier ++ (slot ∷ [])) qs
      (subst (λ (o : Option Slot). AllByRecursion (λ x. x ≡ None) (rule_faults g k (earlier ++ option_to_list o) qs)) is h.1))
