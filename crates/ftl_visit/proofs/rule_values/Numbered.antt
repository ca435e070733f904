-- The rules of all classes by number.
use Rattle.std.proofs.Common.{◌≡◌, ℕ, suc, ◌<◌, refl, sym, ◌∙◌, ap, ap₂, subst, ⊎_elim, arith, List, [], ◌∷◌, ◌++◌, map, flat_map, length, get_or, Contains, Some}
use Rattle.std.specs.List.{slice_get}
use Rattle.std.specs.Option.{option_map}
use Rattle.std.proofs.lemmas.List.{map-append}
use Rattle.std.proofs.lemmas.List.Elements.{All-contains_itself}
use Rattle.std.proofs.lemmas.Option.{slice_get-map, slice_get_cases}
use Rattle.ftl_model.proofs.lists.Elements.{in_cases, in_flat_map, nothing_in}
use Rattle.ftl_grammar.specs.syntax.Trees as trees
use Rattle.ftl_grammar.specs.declared.syntax.rules.Class.{Class}
use Rattle.ftl_grammar.specs.declared.syntax.rules.Grammar.{Grammar}
use Rattle.ftl_grammar.specs.declared.syntax.rules.Rule.{Rule}
use Rattle.ftl_meaning.specs.faults.Checked.{all_rules}
use Rattle.ftl_meaning.specs.faults.Numbering.{class_at, numbered}
use Rattle.ftl_meaning.specs.lawful.Kept.{StandsAt}
use Rattle.ftl_meaning.proofs.lawful.Numbers.{in_numbered}
use Rattle.ftl_visit.specs.compiled.RuleCode.{RuleCode, class_codes, rule_code, rule_codes}

-- the code of a rule with its class
abbrev pub code_with : ℕ × Rule → RuleCode
code_with r = rule_code r.1.body

one_class : (n : ℕ) (rs : List Rule) → map code_with (map (λ r. (n, r)) rs) ≡ map (λ r. rule_code r.body) rs
one_class n [] = refl
one_class n (r ∷ rs) = ap (λ xs. rule_code r.body ∷ xs) (one_class n rs)

all_classes : (n : ℕ) (ks : List Class)
    → map code_with (flat_map (λ k. map (λ r. (k.0, r)) k.1.rules) (numbered n ks)) ≡ class_codes ks
all_classes n [] = refl
all_classes n (k ∷ ks) =
    map-append code_with (map (λ r. (n, r)) k.rules) (flat_map (λ k. map (λ r. (k.0, r)) k.1.rules) (numbered (suc n) ks))
    ∙ ap₂ (λ a b. a ++ b) (one_class n k.rules) (all_classes (suc n) ks)

-- the code of a rule stands at the rule's number
pub code_stands_at : (g : Grammar) (rule : ℕ) → slice_get (rule_codes g) rule ≡ option_map code_with (slice_get (all_rules g) rule)
code_stands_at g rule =
    ap (λ xs. slice_get xs rule) (sym (all_classes 0 g.classes)) ∙ slice_get-map code_with (all_rules g) rule

-- a rule of this number: its class, its place there, and the rule itself
pub record HasRule (g : Grammar) (rule : ℕ) : Type 0 where
  pub class : ℕ
  pub known : class < length g.classes
  pub place : ℕ
  pub written : Rule
  pub stands : StandsAt g class place written
  pub is : slice_get (all_rules g) rule ≡ Some (class, written)

in_pairs : (n : ℕ) (rs : List Rule) (k : ℕ) (r : Rule) → Contains {X = ℕ × Rule} (map (λ (q : Rule). (n, q)) rs) (k, r)
    → (n ≡ k) × ((place : ℕ) × (slice_get rs place ≡ Some r))
in_pairs n [] k r h = absurd (nothing_in (k, r) h)
in_pairs n (q ∷ rs) k r h =
    ⊎_elim (λ same. (ap (λ (p : ℕ × Rule). p.0) same, (0, ap (λ (p : ℕ × Rule). Some p.1) same)))
    (λ later. let i = in_pairs n rs k r later in (i.0, (suc i.1.0, i.1.1)))
    (in_cases (n, q) (k, r) (map (λ (q : Rule). (n, q)) rs) h)

-- each number within the list is that of a rule
pub has_rule : (g : Grammar) (rule : ℕ) → rule < length (all_rules g) → HasRule g rule
has_rule g rule within =
    ⊎_elim (λ here. by_rule here.0 here.2 here.3) (λ past. let p = past.0 in absurd (omega (arith, within, p)))
    (slice_get_cases (all_rules g) rule).1
  where
    by_rule : (x : ℕ × Rule) → slice_get (all_rules g) rule ≡ Some x → get_or (all_rules g) rule x ≡ x → HasRule g rule
    by_rule x at is =
        let there = subst (Contains (all_rules g)) is (All-contains_itself (all_rules g) rule x within) in
        let i = in_flat_map (λ (k : ℕ × Class). map (λ (r : Rule). (k.0, r)) k.1.rules) (numbered 0 g.classes) x there in
        let s = in_numbered 0 g.classes i.0 i.1 in
        let q = in_pairs i.0.0 i.0.1.rules x.0 x.1 i.2 in
        let same : x.0 ≡ s.place = (let a = q.0 in let b = s.number in omega (arith, a, b)) in
        let known = s.known in
        record {
          class = x.0;
          known = omega (arith, same, known);
          place = q.1.0;
          written = x.1;
          stands =
              ap (λ (k : Class). slice_get k.rules q.1.0)
              (ap (class_at g) same ∙ s.is (trees.class [] [] [] [] []))
              ∙ q.1.1;
          is = at;
        }
