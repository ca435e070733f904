-- The rules of a class, from the front.
use Rattle.std.proofs.Common.{◌≡◌, ℕ, ◌+◌, ◌<◌, List, [], ◌∷◌, ◌++◌, length, map, drop, get_or, Option, Some, None, refl, sym, ◌∙◌, ap, subst, append_assoc}
use Rattle.std.specs.Option.{option_to_list}
use Rattle.std.proofs.lemmas.List.{get_or-map, length-map}
use Rattle.ftl_grammar.specs.declared.syntax.rules.Grammar.{Grammar}
use Rattle.ftl_grammar.specs.declared.syntax.rules.Rule.{Rule}
use Rattle.ftl_meaning.specs.declared.faults.fault.GrammarFault.{GrammarFault}
use Rattle.ftl_meaning.specs.declared.faults.info.RuleInfo.{RuleInfo}
use Rattle.ftl_meaning.specs.faults.Allowed.{Leaf, Position}
use Rattle.ftl_meaning.specs.faults.Checked.{info_by}
use Rattle.ftl_meaning.specs.faults.FirstFault.{first_there, rule_fault, rule_faults, rule_name}
use Rattle.ftl_meaning.specs.faults.Numbering.{class_at}
use Rattle.ftl_meaning.specs.faults.RuleForms.{Slot, slot_of}
use Rattle.ftl_meaning.proofs.faults.Counting.{left_by}
use Rattle.ftl_checked.specs.grammars.ReadNumbers.{rule_leaves}
use Rattle.ftl_checked.specs.grammars.Slots.{slots_of}

module _ (g : Grammar) (k : ℕ) (xs : List Rule) (i : ℕ) (x : Rule) (left : drop i xs ≡ x ∷ drop (i + 1) xs) where
  -- the fault of the rule at hand, by itself
  abbrev fault_here : List Slot → Option GrammarFault
  fault_here earlier =
      rule_fault g k (rule_name (class_at g k) x.target) earlier x.body (slot_of g k x.target)

  -- a rule without a fault
  pub rule_passes : (earlier : List Slot) (s : Slot) → slot_of g k x.target ≡ Some s
      → fault_here earlier ≡ None
      → first_there (rule_faults g k earlier (drop i xs)) ≡ first_there (rule_faults g k (earlier ++ s ∷ []) (drop (i + 1) xs))
  rule_passes earlier s is none =
      ap (λ rs. first_there (rule_faults g k earlier rs)) left
      ∙ ap (λ o. first_there (o ∷ rule_faults g k (earlier ++ option_to_list (slot_of g k x.target)) (drop (i + 1) xs))) none
      ∙ ap (λ o. first_there (rule_faults g k (earlier ++ option_to_list o) (drop (i + 1) xs))) is

  -- a rule with one
  pub rule_stops : (earlier : List Slot) (e : GrammarFault) → fault_here earlier ≡ Some e
      → first_there (rule_faults g k earlier (drop i xs)) ≡ Some e
  rule_stops earlier e here =
      ap (λ rs. first_there (rule_faults g k earlier rs)) left
      ∙ ap (λ o. first_there (o ∷ rule_faults g k (earlier ++ option_to_list (slot_of g k x.target)) (drop (i + 1) xs))) here

  -- its slot, after those before
  pub slot_more : (earlier : List Slot) (s : Slot) → slot_of g k x.target ≡ Some s
      → (earlier ++ s ∷ []) ++ slots_of g k (drop (i + 1) xs) ≡ earlier ++ slots_of g k (drop i xs)
  slot_more earlier s is =
      append_assoc earlier (s ∷ []) (slots_of g k (drop (i + 1) xs))
      ∙ ap (λ o. earlier ++ (option_to_list o ++ slots_of g k (drop (i + 1) xs))) (sym is)
      ∙ ap (λ rs. earlier ++ slots_of g k rs) (sym left)

  -- and what is known of it
  pub info_more : (told : List RuleInfo) (s : Slot) → slot_of g k x.target ≡ Some s
      → (told ++ info_by k (Some s) ∷ []) ++ map (λ (r : Rule). info_by k (slot_of g k r.target)) (drop (i + 1) xs)
      ≡ told ++ map (λ (r : Rule). info_by k (slot_of g k r.target)) (drop i xs)
  info_more told s is =
      append_assoc told (info_by k (Some s) ∷ []) (map (λ (r : Rule). info_by k (slot_of g k r.target)) (drop (i + 1) xs))
      ∙ ap (λ o. told ++ (info_by k o ∷ map (λ (r : Rule). info_by k (slot_of g k r.target)) (drop (i + 1) xs))) (sym is)
      ∙ ap (λ rs. told ++ map (λ (r : Rule). info_by k (slot_of g k r.target)) rs) (sym left)

  -- and what it reads
  pub reads_more : (read : List (List (Position × List Leaf))) (parts : List (Position × List Leaf))
      → parts ≡ rule_leaves g (k, x)
      → (read ++ parts ∷ []) ++ map (λ (r : Rule). rule_leaves g (k, r)) (drop (i + 1) xs)
      ≡ read ++ map (λ (r : Rule). rule_leaves g (k, r)) (drop i xs)
  reads_more read parts is =
      append_assoc read (parts ∷ []) (map (λ (r : Rule). rule_leaves g (k, r)) (drop (i + 1) xs))
      ∙ ap (λ ps. read ++ (ps ∷ map (λ (r : Rule). rule_leaves g (k, r)) (drop (i + 1) xs))) is
      ∙ ap (λ rs. read ++ map (λ (r : Rule). rule_leaves g (k, r)) rs) (sym left)

-- what is left of a list made of another, by the first entry there
pub left_of_map : {X Y : Type 0} (f : X → Y) (xs : List X) (ys : List Y) (i : ℕ) (x : X) → map f xs ≡ ys
    → i < length xs → x ≡ get_or xs i x → drop i ys ≡ f x ∷ drop (i + 1) ys
left_of_map f xs ys i x are within is =
    subst (λ zs. drop i zs ≡ f x ∷ drop (i + 1) zs) are
    (left_by (map f xs) i (f x) (subst (λ n. i < n) (sym (length-map xs f)) within)
    (ap f is ∙ sym (get_or-map f xs i x (f x) within)))

-- no rules are left
pub rules_end : (g : Grammar) (k : ℕ) (earlier : List Slot) (xs : List Rule)
    → first_there (rule_faults g k earlier (drop (length xs) xs)) ≡ None
rules_end g k earlier [] = refl
rules_end g k earlier (x ∷ xs) = rules_end g k earlier xs

-- nor slots
pub slots_end : (g : Grammar) (k : ℕ) (xs : List Rule) → slots_of g k (drop (length xs) xs) ≡ []
slots_end g k [] = refl
slots_end g k (x ∷ xs) = slots_end g k xs

-- nothing is left
pub all_gone : {X : Type 0} (xs : List X) → drop (length xs) xs ≡ []
all_gone [] = refl
all_gone (x ∷ xs) = all_gone xs
