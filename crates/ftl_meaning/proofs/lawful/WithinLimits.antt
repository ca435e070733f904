-- A grammar without a fault keeps to the limits.
use Rattle.std.proofs.Common.{◌≡◌, ℕ, ◌+◌, ◌<◌, ◌≤◌, Bool, true, false, nat_lt, if◌then◌else◌, cond, refl, ◌∙◌, ap, subst, arith, List, [], ◌∷◌, length, map, take, filter, flat_map, Contains, Option, Some, None, length-append}
use Rattle.std.specs.List.{AllByRecursion, find}
use Rattle.std.specs.Option.{option_and_then, option_to_list}
use Rattle.std.proofs.lemmas.Bool.{ltb-false}
use Rattle.std.proofs.lemmas.Option.{cond_some, none-some, option_and_then_some, same_Some}
use Rattle.std.proofs.lemmas.List.Elements.{Contains-get_or}
use Rattle.std.proofs.lemmas.List.FromFn.{length-range_with_len}
use Rattle.ftl_model.proofs.lists.Elements.{here_in, later_in}
use Rattle.ftl_model.specs.layout.AttributeGrammar.{Part, RuleName, first_part, for_child, for_self, from_part, plain_part, reads_in, then_part, with_part}
use Rattle.ftl_model.specs.layout.Solves.{rule_named}
use Rattle.ftl_order.specs.orders.Lawful.{IsRule}
use Rattle.ftl_grammar.specs.syntax.Trees as trees
use Rattle.ftl_grammar.specs.declared.syntax.expression.Expr.{Expr}
use Rattle.ftl_grammar.specs.declared.syntax.rules.Body.{Body}
use Rattle.ftl_grammar.specs.declared.syntax.rules.Body.TheVariants as bodies
use Rattle.ftl_grammar.specs.declared.syntax.rules.Grammar.{Grammar}
use Rattle.ftl_grammar.specs.declared.syntax.rules.Interface.{Interface}
use Rattle.ftl_grammar.specs.declared.syntax.rules.Rule.{Rule}
use Rattle.ftl_meaning.specs.formulas.Expressions.{formula_of}
use Rattle.ftl_meaning.specs.formulas.Formula.{reads_of}
use Rattle.ftl_meaning.specs.declared.formulas.read_name.ReadName.{ReadName}
use Rattle.ftl_meaning.specs.declared.formulas.read_name.ReadName.TheVariants as names
use Rattle.ftl_meaning.specs.declared.faults.fault.GrammarFault.TheVariants as fault
use Rattle.ftl_meaning.specs.declared.faults.fault.What.{What}
use Rattle.ftl_meaning.specs.declared.faults.fault.What.TheVariants as what
use Rattle.ftl_meaning.specs.faults.Allowed.{Leaf, Position, accumulator, for_kids, for_later, for_self as in_self, for_single, in_step, leaf_of, may_read_acc, of_read}
use Rattle.ftl_meaning.specs.faults.FirstFault.{class_fault, class_limits, first_fault, first_of, is_counted, limit_fault, name_fault, read_count, read_limits, too_many}
use Rattle.ftl_meaning.specs.faults.Numbering.{child_at, class_at, find_child, interface_at, numbered, own_count, shared_count}
use Rattle.ftl_meaning.specs.faults.RuleForms.{Form, Slot, expressions_of, first_form, fold_form, fold_over_list, form_of, kid_slot, one_form, own_slot}
use Rattle.ftl_meaning.specs.grammars.GrammarOf.{form_for, grammar_of, is_for, rule_by, rule_for}
use Rattle.ftl_meaning.specs.grammars.Meaning.{expression_reads, form_parts, read_of}
use Rattle.ftl_meaning.specs.lawful.Limits.{IsWithinLimits}
use Rattle.ftl_meaning.proofs.lawful.Found.{find_is}
use Rattle.ftl_meaning.proofs.lawful.NoFault.{no_fault, none_in, none_of}
use Rattle.ftl_meaning.proofs.lawful.Numbers.{map-numbered}

-- a count that is no fault is within its limit
within : (kind : What) (limit count : ℕ) → too_many kind limit count ≡ None → count ≤ limit
within kind limit count h = ltb-false limit count (no_fault (nat_lt limit count) (fault.TooMany kind count) h)

length-numbers : {X : Type 0} (n : ℕ) (xs : List X) → length (map (λ a. a.0) (numbered n xs)) ≡ length xs
length-numbers n xs = ap length (map-numbered n xs) ∙ length-range_with_len n (length xs)

-- ---- reads

at_most_one : (o : Option Leaf) → length (option_to_list (option_and_then read_of o)) ≤ 1
at_most_one None = omega arith
at_most_one (Some accumulator) = omega arith
at_most_one (Some (of_read r)) = omega arith

-- a name gives one read at most, and what a fold has so far gives none
reads_of_name : (g : Grammar) (k : ℕ) (at : Position) (name : ReadName)
    → length (option_to_list (option_and_then read_of (leaf_of g k at name))) ≤ length (filter is_counted (name ∷ []))
reads_of_name g k at (names.Own a) = at_most_one (leaf_of g k at (names.Own a))
reads_of_name g k at (names.This a) = at_most_one (leaf_of g k at (names.This a))
reads_of_name g k at (names.Prev a) = at_most_one (leaf_of g k at (names.Prev a))
reads_of_name g k at (names.Of c a) = at_most_one (leaf_of g k at (names.Of c a))
reads_of_name g k at (names.Last c a) = at_most_one (leaf_of g k at (names.Last c a))
reads_of_name g k at names.Acc =
    elim (may_read_acc at) as
    (λ b. length (option_to_list (option_and_then read_of (if b then Some accumulator else None))) ≤ 0)
    [ true ↦ omega arith | false ↦ omega arith ]

filter_one : {X : Type 0} (p : X → Bool) (x : X) (xs : List X)
    → length (filter p (x ∷ xs)) ≡ length (filter p (x ∷ [])) + length (filter p xs)
filter_one p x xs =
    elim (p x) as
    (λ b. length (cond b (x ∷ filter p xs) (filter p xs)) ≡ length (cond b (x ∷ []) []) + length (filter p xs))
    [ true ↦ omega arith | false ↦ omega arith ]

-- some names give no more reads than are counted
few_names : (g : Grammar) (k : ℕ) (at : Position) (ns : List ReadName)
    → length (flat_map (λ name. option_to_list (option_and_then read_of (leaf_of g k at name))) ns)
    ≤ length (filter is_counted ns)
few_names g k at [] = omega arith
few_names g k at (n ∷ ns) =
    let first = reads_of_name g k at n in
    let later = few_names g k at ns in
    let all = filter_one is_counted n ns in
    omega (arith, first, later, all, length-append (option_to_list (option_and_then read_of (leaf_of g k at n))) (flat_map (λ name. option_to_list (option_and_then read_of (leaf_of g k at name))) ns))

module _ (g : Grammar) (k : ℕ) where
  -- an expression has few reads
  few : (at : Position) (e : Expr) → read_count e ≤ 256 → length (expression_reads g k at e) ≤ 256
  few at e h = let less = few_names g k at (reads_of (formula_of e)) in omega (arith, h, less)

  few_one : (at : Position) (e : Expr) → read_count e ≤ 256 → (part : Part)
      → length (reads_in (form_parts g k (one_form at e)) part) ≤ 256
  few_one at e h plain_part = few at e h
  few_one at e h first_part = omega arith
  few_one at e h then_part = omega arith
  few_one at e h from_part = omega arith
  few_one at e h with_part = omega arith

  few_first : (c : ℕ) (e f : Expr) → read_count e ≤ 256 → read_count f ≤ 256 → (part : Part)
      → length (reads_in (form_parts g k (first_form c e f)) part) ≤ 256
  few_first c e f h j plain_part = omega arith
  few_first c e f h j first_part = few (for_kids c) e h
  few_first c e f h j then_part = few (for_later c) f j
  few_first c e f h j from_part = omega arith
  few_first c e f h j with_part = omega arith

  few_fold : (c : ℕ) (e f : Expr) → read_count e ≤ 256 → read_count f ≤ 256 → (part : Part)
      → length (reads_in (form_parts g k (fold_form c e f)) part) ≤ 256
  few_fold c e f h j plain_part = omega arith
  few_fold c e f h j first_part = omega arith
  few_fold c e f h j then_part = omega arith
  few_fold c e f h j from_part = few in_self e h
  few_fold c e f h j with_part = few (in_step c) f j

  abbrev Few : Form → Type 0
  Few form = (part : Part) → length (reads_in (form_parts g k form) part) ≤ 256

  -- each part of a form has few reads
  few_in_form : (slot : Slot) (body : Body) (form : Form)
      → ((e : Expr) → Contains (expressions_of body) e → read_count e ≤ 256)
      → form_of g k slot body ≡ Some form → Few form
  few_in_form (own_slot a) (bodies.Plain e) form each h =
      subst Few (same_Some (one_form in_self e) form h) (few_one in_self e (each e (here_in e [])))
  few_in_form (own_slot a) (bodies.FirstThen e f) form each h = absurd (none-some form h)
  few_in_form (own_slot a) (bodies.Fold c e f) form each h =
      option_and_then_some (fold_over_list e f) (find_child g k c) form h
      (λ child found is.
      subst Few (cond_some child.1.many (fold_form child.0 e f) form is).1
      (few_fold child.0 e f (each e (here_in e (f ∷ []))) (each f (later_in e f (f ∷ []) (here_in f [])))))
  few_in_form (kid_slot c a) (bodies.Plain e) form each h =
      subst Few (same_Some (one_form (if (child_at g k c).many then for_kids c else for_single) e) form h)
      (few_one (if (child_at g k c).many then for_kids c else for_single) e (each e (here_in e [])))
  few_in_form (kid_slot c a) (bodies.FirstThen e f) form each h =
      subst Few (cond_some (child_at g k c).many (first_form c e f) form h).1
      (few_first c e f (each e (here_in e (f ∷ []))) (each f (later_in e f (f ∷ []) (here_in f []))))
  few_in_form (kid_slot c a) (bodies.Fold d e f) form each h = absurd (none-some form h)

-- ---- the limits, one by one

module _ (g : Grammar) (none : first_fault g ≡ None) where
  -- the conditions on limits, one by one
  each_limit : AllByRecursion (λ x. x ≡ None)
      (too_many what.Interfaces 128 (length g.interfaces)
      ∷ too_many what.Classes 128 (length g.classes)
      ∷ first_of (λ x. too_many what.Attributes 64 (length x.attrs)) g.interfaces
      ∷ first_of class_limits g.classes
      ∷ too_many what.AllAttributes 2048 (shared_count g.interfaces + own_count g.classes)
      ∷ first_of (λ x. first_of read_limits x.rules) g.classes
      ∷ [])
  each_limit =
      none_in
      (too_many what.Interfaces 128 (length g.interfaces)
      ∷ too_many what.Classes 128 (length g.classes)
      ∷ first_of (λ x. too_many what.Attributes 64 (length x.attrs)) g.interfaces
      ∷ first_of class_limits g.classes
      ∷ too_many what.AllAttributes 2048 (shared_count g.interfaces + own_count g.classes)
      ∷ first_of (λ x. first_of read_limits x.rules) g.classes
      ∷ [])
      (none_in (limit_fault g ∷ name_fault g ∷ first_of (λ k. class_fault g k.0) (numbered 0 g.classes) ∷ []) none).0

  class_there : (k : ℕ) → k < length g.classes → Contains g.classes (class_at g k)
  class_there k known = Contains-get_or g.classes k (trees.class [] [] [] [] []) known

  limits_of : (k : ℕ) → k < length g.classes
      → AllByRecursion (λ x. x ≡ None)
      (too_many what.Attributes 64 (length (class_at g k).attrs) ∷ too_many what.Children 16 (length (class_at g k).children) ∷ [])
  limits_of k known =
      none_in
      (too_many what.Attributes 64 (length (class_at g k).attrs) ∷ too_many what.Children 16 (length (class_at g k).children) ∷ [])
      (none_of class_limits g.classes each_limit.1.1.1.0 (class_at g k) (class_there k known))

  -- each part of the rule for a slot has few reads
  few_in_rule : (k : ℕ) → k < length g.classes → (slot : Slot) (part : Part)
      → length (reads_in (rule_for 0 g k slot).parts part) ≤ 256
  few_in_rule k known slot part = go (form_for g k slot) refl
    where
      nothing : (part : Part) → length (reads_in (rule_by 0 g k None).parts part) ≤ 256
      nothing plain_part = omega arith
      nothing first_part = omega arith
      nothing then_part = omega arith
      nothing from_part = omega arith
      nothing with_part = omega arith

      go : (o : Option Form) → form_for g k slot ≡ o → length (reads_in (rule_by 0 g k o).parts part) ≤ 256
      go None is = nothing part
      go (Some form) is =
          option_and_then_some (λ (r : Rule). form_of g k slot r.body) (find (is_for g k slot) (class_at g k).rules) form is
          (λ r found has.
          few_in_form g k slot r.body form
          (λ e in_it.
          within what.Reads 256 (read_count e)
          (none_of (λ e. too_many what.Reads 256 (read_count e)) (expressions_of r.body)
          (none_of read_limits (class_at g k).rules
          (none_of (λ x. first_of read_limits x.rules) g.classes each_limit.1.1.1.1.1.0 (class_at g k) (class_there k known))
          r (find_is (is_for g k slot) (class_at g k).rules r found).0) e in_it)) has part)

  few_reads : (w : ℕ) (name : RuleName) (part : Part) → IsRule (grammar_of w g) name
      → length (reads_in (rule_named (grammar_of w g) name).parts part) ≤ 256
  few_reads w (for_self k a) part rule = same_parts (form_for g k (own_slot a)) (few_in_rule k rule.0 (own_slot a) part)
    where
      same_parts : (o : Option Form) → length (reads_in (rule_by 0 g k o).parts part) ≤ 256
          → length (reads_in (rule_by w g k o).parts part) ≤ 256
      same_parts None h = h
      same_parts (Some form) h = h
  few_reads w (for_child k c a) part rule =
      same_parts (form_for g k (kid_slot c a)) (few_in_rule k rule.0 (kid_slot c a) part)
    where
      same_parts : (o : Option Form) → length (reads_in (rule_by 0 g k o).parts part) ≤ 256
          → length (reads_in (rule_by w g k o).parts part) ≤ 256
      same_parts None h = h
      same_parts (Some form) h = h

  -- all limits hold
  pub within_limits : (w : ℕ) → IsWithinLimits (grammar_of w g)
  within_limits w =
      record {
        interfaces = within what.Interfaces 128 (length g.interfaces) each_limit.0;
        classes = within what.Classes 128 (length g.classes) each_limit.1.0;
        attributes = within what.AllAttributes 2048 (shared_count g.interfaces + own_count g.classes) each_limit.1.1.1.1.0;
        shared =
            λ i known.
            let h =
            within what.Attributes 64 (length (interface_at g i).attrs)
            (none_of (λ (x : Interface). too_many what.Attributes 64 (length x.attrs)) g.interfaces each_limit.1.1.0 (interface_at g i)
            (Contains-get_or g.interfaces i (trees.interface [] [] []) known)) in
            omega (arith, h, length-numbers (shared_count (take i g.interfaces)) (interface_at g i).attrs);
        private =
            λ k known.
            let h = within what.Attributes 64 (length (class_at g k).attrs) (limits_of k known).0 in
            omega (arith, h, length-numbers (shared_count g.interfaces + own_count (take k g.classes)) (class_at g k).attrs);
        children =
            λ k known. within what.Children 16 (length (class_at g k).children) (limits_of k known).1.0;
        reads = few_reads w;
      }
