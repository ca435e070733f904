-- Each rule is kept.
use Rattle.std.proofs.Common.{◌≡◌, ℕ, ◌<◌, true, refl, sym, ◌∙◌, ap, subst, ⊎_elim, List, [], length, take, Option, Some, None}
use Rattle.std.specs.List.{find, list_any}
use Rattle.std.specs.Option.{option_and_then}
use Rattle.std.proofs.lemmas.Bool.{both_ways, cases_order, false_from_ne_true}
use Rattle.std.proofs.lemmas.Option.{same_Some}
use Rattle.ftl_model.specs.layout.Solves.{rule_named}
use Rattle.ftl_grammar.specs.declared.syntax.rules.Grammar.{Grammar}
use Rattle.ftl_grammar.specs.declared.syntax.rules.Rule.{Rule}
use Rattle.ftl_meaning.specs.faults.FirstFault.{first_fault, same_slot}
use Rattle.ftl_meaning.specs.faults.Numbering.{class_at}
use Rattle.ftl_meaning.specs.faults.RuleForms.{Slot, form_of, kid_slot, own_slot, slot_of}
use Rattle.ftl_meaning.specs.grammars.GrammarOf.{grammar_of, is_for, name_of_rule, rule_by, rule_for}
use Rattle.ftl_meaning.specs.lawful.Kept.{IsKept, StandsAt}
use Rattle.ftl_meaning.proofs.lawful.Found.{find_first}
use Rattle.ftl_meaning.proofs.lawful.RequiredRules.{rules_right}
use Rattle.ftl_meaning.proofs.lawful.RightRules.{IsRight, earlier_slot, for_slot, is_slot, right_at, slot_among, slots_of}

module _ (g : Grammar) (none : first_fault g ≡ None) (k : ℕ) (known : k < length g.classes) where
  abbrev rules : List Rule
  rules = (class_at g k).rules

  -- the rule at a place has no fault
  right : (n : ℕ) (r : Rule) → StandsAt g k n r → IsRight g k (slots_of g k (take n rules)) r
  right n r at = right_at g k [] rules (rules_right g none k known) n r at

  -- no rule is for what an earlier one is for
  not_before : (m n : ℕ) (q r : Rule) (slot : Slot) → StandsAt g k m q → StandsAt g k n r
      → slot_of g k q.target ≡ Some slot → slot_of g k r.target ≡ Some slot → m < n → ⊥
  not_before m n q r slot at_m at_n for_q for_r before =
      let it = right n r at_n in
      let same : slot ≡ it.slot = same_Some slot it.slot (sym for_r ∙ it.is_for) in
      both_ways (list_any (same_slot it.slot) (slots_of g k (take n rules))) it.is_new
      (subst (λ s. list_any (same_slot s) (slots_of g k (take n rules)) ≡ true) same
      (slot_among slot (slots_of g k (take n rules)) (earlier_slot g k rules m n q slot before at_m for_q)))

  -- two rules for one thing stand at one place
  alone : (m n : ℕ) (q r : Rule) (slot : Slot) → StandsAt g k m q → StandsAt g k n r
      → slot_of g k q.target ≡ Some slot → slot_of g k r.target ≡ Some slot → m ≡ n
  alone m n q r slot at_m at_n for_q for_r =
      ⊎_elim (λ same. same)
      (λ other.
      ⊎_elim (λ before. absurd (not_before m n q r slot at_m at_n for_q for_r before))
      (λ after. absurd (not_before n m r q slot at_n at_m for_r for_q after)) other)
      (cases_order m n)

  -- the rule of the grammar for a slot, by its name
  named : (greatest : ℕ) (slot : Slot)
      → rule_named (grammar_of greatest g) (name_of_rule k slot) ≡ rule_for greatest g k slot
  named greatest (own_slot a) = refl
  named greatest (kid_slot c a) = refl

  -- the rule at a place is the one that is found for its slot
  found : (n : ℕ) (r : Rule) (slot : Slot) → StandsAt g k n r → slot_of g k r.target ≡ Some slot
      → find (is_for g k slot) rules ≡ Some r
  found n r slot at stands =
      find_first (is_for g k slot) rules n r at (for_slot slot (slot_of g k r.target) stands)
      (λ m q before at_m.
      false_from_ne_true (is_for g k slot q)
      (λ passes. not_before m n q r slot at_m at (is_slot slot (slot_of g k q.target) passes) stands before))

  -- each rule is kept
  pub rule_kept : (n : ℕ) (r : Rule) → StandsAt g k n r → IsKept g k n r
  rule_kept n r at =
      let it = right n r at in
      record {
        slot = it.slot;
        is_for = it.is_for;
        alone = λ m q at_m for_q. alone m n q r it.slot at_m at for_q it.is_for;
        form = it.form;
        has_form = it.has_form;
        reads = it.reads;
        means =
            λ greatest.
            named greatest it.slot
            ∙ ap (λ (o : Option Rule). rule_by greatest g k (option_and_then (λ (r : Rule). form_of g k it.slot r.body) o))
            (found n r it.slot at it.is_for)
            ∙ ap (rule_by greatest g k) it.has_form;
      }
