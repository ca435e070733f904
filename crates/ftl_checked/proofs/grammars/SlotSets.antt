-- Sets of slots, as code has them.
use Rattle.std.proofs.Common.{◌≡◌, ℕ, Bool, false, cond, ◌==◌, ◌&&◌, ◌||◌, List, [], ◌∷◌, ◌++◌, map, refl, ◌∙◌, ap, ap₂}
use Rattle.std.specs.List.{list_any}
use Rattle.std.proofs.lemmas.List.{map-append}
use Rattle.indexmap.specs.IndexSet.{insert_key}
use Rattle.ftl_meaning.specs.faults.FirstFault.{same_slot}
use Rattle.ftl_checked.specs.grammars.Slots.{slot_in}
use Rattle.ftl_checked.specs.declared.grammars.slots.RuleSlot.{RuleSlot}
use Rattle.ftl_checked.specs.declared.grammars.slots.RuleSlot.TheVariants as code

-- what a derived test of slots says
pub record TestsSlots (eq : RuleSlot → RuleSlot → Bool) : Type 0 where
  pub own_own : (a b : ℕ) → eq (code.Own a) (code.Own b) ≡ (a == b)
  pub own_kid : (a c b : ℕ) → eq (code.Own a) (code.Kid c b) ≡ false
  pub kid_own : (c a b : ℕ) → eq (code.Kid c a) (code.Own b) ≡ false
  pub kid_kid : (c a d b : ℕ) → eq (code.Kid c a) (code.Kid d b) ≡ (c == d && a == b)

-- it is the test of the slots that are meant
tests_same : (eq : RuleSlot → RuleSlot → Bool) → TestsSlots eq → (s t : RuleSlot) → eq s t ≡ same_slot (slot_in s) (slot_in t)
tests_same eq tests (code.Own a) (code.Own b) = tests.own_own a b
tests_same eq tests (code.Own a) (code.Kid c b) = tests.own_kid a c b
tests_same eq tests (code.Kid c a) (code.Own b) = tests.kid_own c a b
tests_same eq tests (code.Kid c a) (code.Kid d b) = tests.kid_kid c a d b

-- a set has a slot where its list has it
pub any_slot : (eq : RuleSlot → RuleSlot → Bool) → TestsSlots eq → (s : RuleSlot) (keys : List RuleSlot)
    → list_any (eq s) keys ≡ list_any (same_slot (slot_in s)) (map slot_in keys)
any_slot eq tests s [] = refl
any_slot eq tests s (k ∷ ks) = ap₂ (λ a b. a || b) (tests_same eq tests s k) (any_slot eq tests s ks)

-- a new slot goes last
pub slot_added : (eq : RuleSlot → RuleSlot → Bool) → TestsSlots eq → (s : RuleSlot) (keys : List RuleSlot)
    → list_any (same_slot (slot_in s)) (map slot_in keys) ≡ false
    → map slot_in (insert_key eq keys s) ≡ map slot_in keys ++ slot_in s ∷ []
slot_added eq tests s keys new =
    ap (λ b. map slot_in (cond b keys (keys ++ s ∷ []))) (any_slot eq tests s keys ∙ new)
    ∙ map-append slot_in keys (s ∷ [])
