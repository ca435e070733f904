-- Where the rule of a number stands among those of its class.
use Rattle.std.proofs.Common.{◌≡◌, ℕ, ◌+◌, ◌-◌, ◌<◌, ◌≤◌, List, [], length, flat_map, take, get_or, Option, Some, None, refl, sym, ◌∙◌, ap, subst, arith}
use Rattle.std.proofs.lemmas.List.{get_or-map}
use Rattle.ftl_checked.proofs.lookup.Standing.{is_of, rule_is_of, stands}
use Rattle.ftl_grammar.specs.declared.syntax.rules.Class.{Class}
use Rattle.ftl_grammar.specs.declared.syntax.rules.Grammar.{Grammar}
use Rattle.ftl_grammar.specs.declared.syntax.rules.Rule.{Rule}
use Rattle.ftl_grammar.specs.syntax.Trees as trees
use Rattle.ftl_meaning.specs.declared.faults.info.RuleInfo.{RuleInfo}
use Rattle.ftl_meaning.specs.faults.Checked.{all_rules, info_by, rule_info, rule_info_at}
use Rattle.ftl_meaning.specs.faults.Numbering.{class_at}
use Rattle.ftl_meaning.specs.faults.RuleForms.{Slot, kid_slot, own_slot, slot_of}
use Rattle.maugzeris.specs.rules.Spoken.{rule_text, rule_text_at}

abbrev pub no_class : Class
no_class = trees.class [] [] [] [] []

abbrev with_class : ℕ → Rule → ℕ × Rule
with_class k r = (k, r)

-- what is known of a rule has its class
info_class : (k : ℕ) (slot : Option Slot) → (info_by k slot).class ≡ k
info_class k (Some (own_slot a)) = refl
info_class k (Some (kid_slot c a)) = refl
info_class k None = refl

-- how many rules the classes before have
abbrev pub before : Grammar → (class : ℕ) → ℕ
before g k = length (flat_map (λ (x : Class). x.rules) (take k g.classes))

-- the text of a rule is that of the one at its place in its class
pub rule_written : (g : Grammar) (d : Rule) (r k : ℕ) → r < length (all_rules g) → k ≡ (rule_info_at g r).class
    → rule_text (get_or (class_at g k).rules (r - before g k) d) ≡ rule_text_at g r
rule_written g d r k within named =
    let at = stands (λ (x : Class). x.rules) with_class no_class d (0, d) 0 g.classes r within in
    let is = is_of (λ (x : Class). x.rules) with_class no_class d g.classes r (get_or (all_rules g) r (0, d)) at in
    let told : rule_info_at g r ≡ rule_info g (get_or (all_rules g) r (0, d)) =
    get_or-map (rule_info g) (all_rules g) r (0, d) (info_by 0 None) within in
    let class : (rule_info_at g r).class ≡ at.list =
    ap (λ (i : RuleInfo). i.class) (told ∙ ap (rule_info g) is)
    ∙ info_class at.list (slot_of g at.list (get_or (class_at g at.list).rules at.place d).target) in
    let counts = at.counts in
    let place : r - before g at.list ≡ at.place = omega arith in
    subst (λ l. rule_text (get_or (class_at g l).rules (r - before g l) d) ≡ rule_text_at g r) (sym (named ∙ class))
    (ap (λ p. rule_text (get_or (class_at g at.list).rules p d)) place
    ∙ sym (ap (λ (z : ℕ × Rule). rule_text z.1) is)
    ∙ sym (get_or-map (λ (z : ℕ × Rule). rule_text z.1) (all_rules g) r (0, d) [] within))
