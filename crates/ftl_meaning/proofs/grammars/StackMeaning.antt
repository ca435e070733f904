-- The stack grammar as it is written means the stack grammar of the model.
use Rattle.std.proofs.Common.{◌≡◌, ℕ, zero, suc, ◌<◌, refl, ap, subst, ⊎_elim, arith, pos, cond}
use Rattle.std.specs.List.{AllByRecursion}
use Rattle.std.proofs.lemmas.Bool.{cases_lt, le-leb}
use Rattle.ftl_model.proofs.lists.Elements.{each_in}
use Rattle.ftl_model.specs.layout.AttributeGrammar.{AttributeGrammar, Occurrence, RuleName, for_child, for_self}
use Rattle.ftl_model.specs.layout.Solves.{rule_named}
use Rattle.ftl_model.specs.layout.Stack.{stack_in, stack_rules}
use Rattle.ftl_model.specs.layout.StackNames.{stack_names}
use Rattle.ftl_model.specs.layout.Values.{Value, number, overflow, value_of}
use Rattle.ftl_meaning.specs.faults.Worked as written
use Rattle.ftl_meaning.proofs.faults.WorkedFormulas.{of-adding, of-num, of-reading, of-stacked, of-widest}
use Rattle.ftl_meaning.specs.grammars.Alike.{IsAlike, IsSameRule, PrintsAlike}
use Rattle.ftl_meaning.specs.grammars.GrammarOf.{grammar_of, names_of}

-- what holds of the numbers 0, 1 and so on holds of each number below their count
abbrev EachBelow : (ℕ → Type 0) → ℕ → Type 0
EachBelow P zero = Unit {0}
EachBelow P (suc n) = P n × EachBelow P n

each_below : (P : ℕ → Type 0) (n : ℕ) → EachBelow P n → (k : ℕ) → k < n → P k
each_below P zero h k below = absurd (let z : ⊥ = omega (arith, below) in z)
each_below P (suc n) h k below =
    ⊎_elim (λ less. each_below P n h.1 k less)
    (λ last. let e : n ≡ k = omega (arith, below, last) in subst P e h.0) (cases_lt k n)

-- 0 is a number of each width
zero_is : (greatest : ℕ) → value_of greatest (pos 0) ≡ number (pos 0)
zero_is greatest = ap (λ b. cond b (number (pos 0)) overflow) (le-leb 0 greatest (omega arith))

module _ (greatest : ℕ) where
  abbrev SameRule : RuleName → Type 0
  SameRule w = IsSameRule (rule_named (grammar_of greatest written.stack) w) (rule_named (stack_in greatest) w)

  sheet_h_same : SameRule (for_self 0 0)
  sheet_h_same = record { parts = simp of-reading refl; value = λ kids n s. simp of-reading refl }

  body_x_same : SameRule (for_child 0 0 1)
  body_x_same = record { parts = simp of-num refl; value = λ kids n s. simp (of-num, zero_is) refl }

  body_y_same : SameRule (for_child 0 0 2)
  body_y_same = record { parts = simp of-num refl; value = λ kids n s. simp (of-num, zero_is) refl }

  column_w_same : SameRule (for_self 1 3)
  column_w_same =
      record { parts = simp (of-num, of-widest) refl; value = λ kids n s. simp (of-num, of-widest, zero_is) refl }

  column_h_same : SameRule (for_self 1 4)
  column_h_same =
      record { parts = simp (of-num, of-stacked) refl; value = λ kids n s. simp (of-num, of-stacked, zero_is) refl }

  kids_x_same : SameRule (for_child 1 0 1)
  kids_x_same = record { parts = simp of-reading refl; value = λ kids n s. simp of-reading refl }

  kids_y_value_same : (kids : ℕ → ℕ) (n : ℕ) (s : Occurrence → Value)
      → ((grammar_of greatest written.stack).child_rule 1 0 2).value kids n s ≡ ((stack_in greatest).child_rule 1 0 2).value kids n s
  kids_y_value_same kids zero s = simp of-reading refl
  kids_y_value_same kids (suc n) s = simp of-adding refl

  kids_y_same : SameRule (for_child 1 0 2)
  kids_y_same = record { parts = simp (of-reading, of-adding) refl; value = kids_y_value_same }

  word_w_same : SameRule (for_self 2 3)
  word_w_same = record { parts = simp of-reading refl; value = λ kids n s. simp of-reading refl }

  word_h_same : SameRule (for_self 2 4)
  word_h_same = record { parts = simp of-reading refl; value = λ kids n s. simp of-reading refl }

  each_rule : AllByRecursion SameRule stack_rules
  each_rule =
      (sheet_h_same, (body_x_same, (body_y_same, (column_w_same, (column_h_same, (kids_x_same, (kids_y_same, (word_w_same, (word_h_same, tt)))))))))

  abbrev g : AttributeGrammar
  g = grammar_of greatest written.stack

  abbrev h : AttributeGrammar
  h = stack_in greatest

  each_child : (P : ℕ → ℕ → Type 0) → P 0 0 → P 1 0 → (k c : ℕ) → k < 3 → c < g.child_count k → P k c
  each_child P sheet column k c known below =
      each_below (λ k. (c : ℕ) → c < g.child_count k → P k c) 3
      (each_below (P 2) 0 tt, (each_below (P 1) 1 (column, tt), (each_below (P 0) 1 (sheet, tt), tt))) k known c below

  pub stack_alike : IsAlike g h
  stack_alike =
      record {
        greatest = refl;
        root = refl;
        interface_count = refl;
        class_count = refl;
        attribute_count = refl;
        interface = each_below (λ k. g.interface k ≡ h.interface k) 3 (refl, (refl, (refl, tt)));
        child_count = each_below (λ k. g.child_count k ≡ h.child_count k) 3 (refl, (refl, (refl, tt)));
        child_interface = each_child (λ k c. g.child_interface k c ≡ h.child_interface k c) refl refl;
        is_list = each_child (λ k c. g.is_list k c ≡ h.is_list k c) refl refl;
        shared = each_below (λ i. g.shared i ≡ h.shared i) 2 (refl, (refl, tt));
        private = each_below (λ k. g.private k ≡ h.private k) 3 (refl, (refl, (refl, tt)));
        sort =
            each_below (λ a. g.sort a ≡ h.sort a) 7 (refl, (refl, (refl, (refl, (refl, (refl, (refl, tt)))))));
        rules = refl;
        each_rule = each_in SameRule stack_rules each_rule;
      }

pub names_alike : PrintsAlike 3 7 (names_of written.stack) stack_names
names_alike =
    record {
      classes = each_below (λ k. (names_of written.stack).class_name k ≡ stack_names.class_name k) 3 (refl, (refl, (refl, tt)));
      attributes =
          each_below (λ a. (names_of written.stack).attribute_name a ≡ stack_names.attribute_name a) 7
          (refl, (refl, (refl, (refl, (refl, (refl, (refl, tt)))))));
      shown = each_below (λ k. (names_of written.stack).shown k ≡ stack_names.shown k) 3 (refl, (refl, (refl, tt)));
    }
