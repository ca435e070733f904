-- What a class needs rules for, list by list.
use Rattle.std.proofs.Common.{◌≡◌, ℕ, Bool, true, false, ◌||◌, List, [], ◌∷◌, ◌++◌, flat_map, Option, Some, None, refl, sym, ◌∙◌, ap, ap₂}
use Rattle.std.specs.List.{list_any}
use Rattle.std.specs.Option.{option_to_list}
use Rattle.ftl_grammar.specs.declared.syntax.rules.AttrDecl.{AttrDecl}
use Rattle.ftl_grammar.specs.declared.syntax.rules.Child.{Child}
use Rattle.ftl_grammar.specs.declared.syntax.rules.Grammar.{Grammar}
use Rattle.ftl_grammar.specs.declared.syntax.rules.Rule.{Rule}
use Rattle.ftl_grammar.specs.declared.syntax.rules.Target.{Target}
use Rattle.ftl_grammar.specs.declared.syntax.rules.Target.TheVariants as targets
use Rattle.ftl_meaning.specs.declared.faults.fault.GrammarFault.{GrammarFault}
use Rattle.ftl_meaning.specs.faults.FirstFault.{first_of, first_there, is_ruled, kid_required, missing_rule}
use Rattle.ftl_meaning.specs.faults.FirstFault.{own_required, same_slot}
use Rattle.ftl_checked.specs.grammars.MissingRules.{missing_for_kid, missing_rule_fault, missing_of}
use Rattle.ftl_meaning.specs.faults.Numbering.{child_attributes, children_of, class_at, class_attributes, interface_of, own_attributes, shared_attributes}
use Rattle.ftl_meaning.specs.faults.RuleForms.{Slot, is_inherited, is_synthesized_or_local, kid_slot, own_slot, slot_of}
use Rattle.ftl_checked.specs.grammars.Slots.{slots_of}
use Rattle.ftl_meaning.proofs.faults.FirstLists.{of_append, of_joined, of_picked, of_same}

-- whether any of two lists has it
any_append : (p : Slot → Bool) (xs ys : List Slot) → list_any p (xs ++ ys) ≡ list_any p xs || list_any p ys
any_append p [] ys = refl
any_append p (x ∷ xs) ys = by_test (p x) (any_append p xs ys)
  where
    by_test : (b : Bool) → list_any p (xs ++ ys) ≡ list_any p xs || list_any p ys
        → b || list_any p (xs ++ ys) ≡ (b || list_any p xs) || list_any p ys
    by_test true rest = refl
    by_test false rest = rest

-- a slot has a rule where it is among the slots of the rules
ruled_among : (g : Grammar) (k : ℕ) (slot : Slot) (rs : List Rule)
    → list_any (λ r. list_any (same_slot slot) (option_to_list (slot_of g k r.target))) rs
    ≡ list_any (same_slot slot) (slots_of g k rs)
ruled_among g k slot [] = refl
ruled_among g k slot (r ∷ rs) =
    ap (λ b. list_any (same_slot slot) (option_to_list (slot_of g k r.target)) || b) (ruled_among g k slot rs)
    ∙ sym (any_append (same_slot slot) (option_to_list (slot_of g k r.target)) (slots_of g k rs))

-- the same, of the slots that a class has
pub ruled_as : (g : Grammar) (k : ℕ) (slot : Slot) (slots : List Slot) → slots ≡ slots_of g k (class_at g k).rules
    → is_ruled g k slot ≡ list_any (same_slot slot) slots
ruled_as g k slot slots are =
    ruled_among g k slot (class_at g k).rules ∙ ap (list_any (same_slot slot)) (sym are)

-- the first attribute without a rule, by what is looked at in turn
pub missing_parts : (g : Grammar) (k : ℕ) → missing_rule g k
    ≡ first_there (first_of (missing_of g k None) (shared_attributes g (interface_of g k))
    ∷ first_of (missing_of g k None) (own_attributes g k) ∷ first_of (missing_for_kid g k) (children_of g k) ∷ [])
unfolding missing_for_kid
missing_parts g k =
    let F : Slot × Target → Option GrammarFault = λ need. missing_rule_fault g k need.0 need.1 in
    let OwnOf : ℕ × AttrDecl → Slot × Target = λ a. (own_slot a.0, targets.Own a.1.name) in
    let KidOf : ℕ × Child → ℕ × AttrDecl → Slot × Target = λ c a. (kid_slot c.0 a.0, targets.Of c.1.name a.1.name) in
    let own : first_of F (own_required g k) ≡ first_there (first_of (missing_of g k None) (shared_attributes g (interface_of g k))
    ∷ first_of (missing_of g k None) (own_attributes g k) ∷ []) =
    of_picked F OwnOf (λ a. is_synthesized_or_local a.1.kind) (class_attributes g k)
    ∙ of_append (missing_of g k None) (shared_attributes g (interface_of g k)) (own_attributes g k) in
    let kids : first_of F (flat_map (kid_required g) (children_of g k)) ≡ first_of (missing_for_kid g k) (children_of g k) =
    of_joined F (kid_required g) (children_of g k)
    ∙ of_same (λ c. first_of F (kid_required g c)) (missing_for_kid g k)
    (λ c. of_picked F (KidOf c) (λ a. is_inherited a.1.kind) (child_attributes g c.1)) (children_of g k) in
    of_append F (own_required g k) (flat_map (kid_required g) (children_of g k))
    ∙ ap₂ (λ a b. first_there (a ∷ b ∷ [])) own kids
    ∙ by_first (first_of (missing_of g k None) (shared_attributes g (interface_of g k))) (first_of (missing_of g k None) (own_attributes g k))
    (first_of (missing_for_kid g k) (children_of g k))
  where
    by_first : (a b c : Option GrammarFault) → first_there (first_there (a ∷ b ∷ []) ∷ c ∷ []) ≡ first_there (a ∷ b ∷ c ∷ [])
    by_first (Some x) b c = refl
    by_first None (Some x) c = refl
    by_first None None c = refl
