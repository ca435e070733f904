-- The rules of a checked grammar by number, and what is known of them.
use Rattle.std.proofs.Common.{◌≡◌, ℕ, ◌+◌, ◌<◌, [], ◌∷◌, ◌++◌, length, map, take, get_or, Option, Some, None, refl, sym, ◌∙◌, ap, subst, add-one}
use Rattle.std.specs.Prelude.{IfSome}
use Rattle.std.proofs.lemmas.List.{get_or-map, length-map, map-id}
use Rattle.std.proofs.lemmas.List.Elements.{Contains-get_or}
use Rattle.std.proofs.Math.Seq.{take-length, take-suc}
use Rattle.ftl_model.specs.layout.AttributeGrammar.{for_self}
use Rattle.ftl_order.specs.orders.Lawful.{IsRule}
use Rattle.ftl_base.specs.Widths.{greatest_of_width}
use Rattle.ftl_grammar.specs.declared.syntax.rules.Grammar.{Grammar}
use Rattle.ftl_meaning.specs.faults.Checked.{CheckedGrammar, all_rules, info_by, rule_info, rule_info_at}
use Rattle.ftl_meaning.specs.declared.faults.info.RuleInfo.{RuleInfo}
use Rattle.ftl_meaning.specs.faults.FirstFault.{first_fault}
use Rattle.ftl_meaning.specs.faults.Numbering.{class_at}
use Rattle.ftl_meaning.specs.faults.RuleForms.{Slot, kid_slot, own_slot}
use Rattle.ftl_meaning.specs.grammars.GrammarOf.{name_of_rule}
use Rattle.ftl_meaning.proofs.lawful.Lawfulness.{rule_is}
use Rattle.ftl_deps.specs.reads.Meant.{meant}
use Rattle.ftl_deps.specs.reads.Products.{name_of_child, name_of_info}
use Rattle.ftl_deps.proofs.reads.RuleRows.{map-map, rows_are}

-- what is known of a slot has its name
slot_of_infos : (k : ℕ) (slot : Slot) → name_of_rule k slot ≡ name_of_info (info_by k (Some slot))
slot_of_infos k (own_slot a) = refl
slot_of_infos k (kid_slot c a) = refl

module _ (c : CheckedGrammar) (none : first_fault c.grammar ≡ None) where
  abbrev g : Grammar
  g = c.grammar

  -- all rules
  pub rules_of_infos : (meant c).rules ≡ map name_of_info (map (rule_info g) (all_rules g))
  rules_of_infos =
      sym (map-id (meant c).rules)
      ∙ rows_are g none (λ w. w) (λ q. name_of_info (rule_info g q))
      (λ k n r kept. slot_of_infos k kept.slot ∙ ap (λ o. name_of_info (info_by k o)) (sym kept.is_for))
      ∙ sym (map-map name_of_info (rule_info g) (all_rules g))

  -- the rule of a number
  pub info_is : (n : ℕ) → n < length (all_rules g)
      → get_or (meant c).rules n (for_self 0 0) ≡ name_of_info (rule_info_at g n)
  info_is n within =
      ap (λ ws. get_or ws n (for_self 0 0)) rules_of_infos
      ∙ get_or-map name_of_info (map (rule_info g) (all_rules g)) n (info_by 0 None) (for_self 0 0)
      (subst (λ m. n < m) (sym (length-map (all_rules g) (rule_info g))) within)

  -- how many there are
  pub rules_long : length (meant c).rules ≡ length (all_rules g)
  rules_long =
      ap length rules_of_infos ∙ length-map (map (rule_info g) (all_rules g)) name_of_info ∙ length-map (all_rules g) (rule_info g)

  -- it is a rule
  pub info_rule : (n : ℕ) → n < length (all_rules g) → IsRule (meant c) (name_of_info (rule_info_at g n))
  info_rule n within =
      subst (IsRule (meant c)) (info_is n within)
      (rule_is (greatest_of_width c.width) g (get_or (meant c).rules n (for_self 0 0))
      (Contains-get_or (meant c).rules n (for_self 0 0) (subst (λ m. n < m) (sym rules_long) within)))

  class_known_of_info : (i : RuleInfo) (child : Option ℕ) → IsRule (meant c) (name_of_child i.class i.attr child)
      → i.class < length g.classes
  class_known_of_info i None h = h.0
  class_known_of_info i (Some d) h = h.0

  child_known_of_info : (i : RuleInfo) (child : Option ℕ) → IsRule (meant c) (name_of_child i.class i.attr child)
      → IfSome child (λ d. d < length (class_at g i.class).children)
  child_known_of_info i None h = tt
  child_known_of_info i (Some d) h = h.1

  -- of a class that is there
  pub class_known : (n : ℕ) → n < length (all_rules g) → (rule_info_at g n).class < length g.classes
  class_known n within = class_known_of_info (rule_info_at g n) (rule_info_at g n).child (info_rule n within)

  -- and for a child that is there, where it is for one
  pub child_known : (n : ℕ) → n < length (all_rules g)
      → IfSome (rule_info_at g n).child (λ d. d < length (class_at g (rule_info_at g n).class).children)
  child_known n within = child_known_of_info (rule_info_at g n) (rule_info_at g n).child (info_rule n within)

  -- a rule more
  pub rules_more : (n : ℕ) → n < length (all_rules g)
      → take (n + 1) (meant c).rules ≡ take n (meant c).rules ++ name_of_info (rule_info_at g n) ∷ []
  rules_more n within =
      ap (λ m. take m (meant c).rules) (add-one n)
      ∙ take-suc (meant c).rules n (for_self 0 0) (subst (λ m. n < m) (sym rules_long) within)
      ∙ ap (λ w. take n (meant c).rules ++ w ∷ []) (info_is n within)

  -- all of them
  pub rules_all : take (length (all_rules g)) (meant c).rules ≡ (meant c).rules
  rules_all = ap (λ n. take n (meant c).rules) (sym rules_long) ∙ take-length (meant c).rules
