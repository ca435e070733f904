-- No first fault of a schedule by number is want of memory.
use Rattle.std.proofs.Common.{◌≢◌, ℕ, Bool, true, false, not, ◌&&◌, List, [], ◌∷◌, Option, Some, None}
use Rattle.std.specs.Prelude.{if◌then◌else◌}
use Rattle.std.specs.List.{enumerate_from, range_with_len}
use Rattle.std.specs.Option.{option_or}
use Rattle.ftl_model.specs.lists.FirstAlong.{first_along}
use Rattle.ftl_model.specs.lists.Lists.{is_listed}
use Rattle.ftl_model.specs.layout.AttributeGrammar.{AttributeGrammar, is_input}
use Rattle.ftl_order.specs.dependencies.DepReads.{rule_reads}
use Rattle.ftl_order.specs.orders.Schedule.{Placing, Schedule, entries, placing_of}
use Rattle.ftl_order.specs.declared.faults.fault.VerifyFault.TheVariants.{Missing, OutOfMemory, Twice}
use Rattle.ftl_order.specs.faults.FirstFault.{fault_by, first_fault, first_missing, first_twice, first_unordered, missing_fault}
use Rattle.ftl_order.specs.faults.FirstFault.{reads_fault, unordered_writer}

-- ---- a fault that is nowhere is not the first

pub or_never : {F : Type 0} (fault : F) (x y : Option F) → x ≢ Some fault → y ≢ Some fault → option_or x y ≢ Some fault
or_never fault None y p q = q
or_never fault (Some z) y p q = p

pub along_never : {X F : Type 0} (fault : F) (found_at : X → Option F) (xs : List X)
    → ((x : X) → found_at x ≢ Some fault) → first_along found_at xs ≢ Some fault
along_never fault found_at [] never = λ e. cc
along_never fault found_at (x ∷ xs) never =
    or_never fault (found_at x) (first_along found_at xs) (never x) (along_never fault found_at xs never)

pub if_never : {F : Type 0} (fault : F) (b : Bool) (x y : Option F) → x ≢ Some fault → y ≢ Some fault
    → (if b then x else y) ≢ Some fault
if_never fault true x y p q = p
if_never fault false x y p q = q

-- ---- nor is want of memory

pub twice_never : (before later : List ℕ) → first_twice before later ≢ Some OutOfMemory
twice_never before [] = λ e. cc
twice_never before (a ∷ later) =
    if_never OutOfMemory (is_listed before a) (Some (Twice a)) (first_twice (a ∷ before) later) (λ e. cc)
    (twice_never (a ∷ before) later)

pub by_never : (reader : ℕ) (writer : Option ℕ) → fault_by reader writer ≢ Some OutOfMemory
by_never reader None = λ e. cc
by_never reader (Some writer) = λ e. cc

module _ (g : AttributeGrammar) where
  missing_never : (listed : List ℕ) → first_missing g listed ≢ Some OutOfMemory
  missing_never listed =
      along_never OutOfMemory (missing_fault g listed) (range_with_len 0 g.attribute_count)
      (λ a.
      if_never OutOfMemory (not (is_input (g.sort a)) && not (is_listed listed a)) (Some (Missing a)) None (λ e. cc)
      (λ e. cc))

  unordered_never : (at : Placing) → first_unordered g at ≢ Some OutOfMemory
  unordered_never at =
      along_never OutOfMemory (reads_fault g at) (enumerate_from 0 g.rules)
      (λ r.
      along_never OutOfMemory (λ d. fault_by r.0 (unordered_writer g at r.1 d)) (rule_reads g r.1)
      (λ d. by_never r.0 (unordered_writer g at r.1 d)))

  pub never_memory : (s : Schedule) → first_fault g s ≢ Some OutOfMemory
  never_memory s =
      or_never OutOfMemory (first_twice [] (entries s))
      (option_or (first_missing g (entries s)) (first_unordered g (placing_of s))) (twice_never [] (entries s))
      (or_never OutOfMemory (first_missing g (entries s)) (first_unordered g (placing_of s)) (missing_never (entries s))
      (unordered_never (placing_of s)))
