-- The first fault along the stages.
use Rattle.std.proofs.Common.{◌≡◌, ℕ, zero, suc, ◌+◌, ◌-◌, ◌<◌, ◌≤◌, nat_lt, List, length, get_or, filter, take, Option, Some, None, refl, ◌∙◌, ap, ap₂, arith}
use Rattle.std.specs.List.{find, range_with_len}
use Rattle.std.specs.Option.{option_map, option_or}
use Rattle.std.proofs.lemmas.List.{take_all}
use Rattle.ftl_model.specs.lists.FirstAlong.{first_along}
use Rattle.ftl_model.specs.layout.AttributeGrammar.{AttributeGrammar}
use Rattle.ftl_model.specs.layout.Solves.{Instance}
use Rattle.ftl_model.specs.layout.Table.{instance_count, instances}
use Rattle.ftl_model.specs.layout.Tree.{Forest}
use Rattle.ftl_order.specs.orders.Schedule.{Schedule}
use Rattle.ftl_order.proofs.orders.Instances.{length-instances}
use Rattle.ftl_items.specs.stage_items.Limits.{is_of_stage, read_count, steps_of_stage}
use Rattle.ftl_step_value.specs.limits.faults.PlanFaults.{fault_past, first_of_stages, step_too_wide, too_many_reads}
use Rattle.ftl_step_value.specs.limits.faults.StageReads.{AreCounts, many_by, no_reads, reads_of_steps, wide_by}
use Rattle.ftl_step_value.specs.declared.limits.faults.fault.PlanFault.{PlanFault}
use Rattle.ftl_step_value.specs.declared.limits.faults.fault.PlanFault.TheVariants.{TooManyReads, StepTooWide}
use Rattle.ftl_step_value.specs.declared.limits.faults.reads.StageReads.{StageReads}

-- stages that have the same faults have the same first one
same_along : (f h : ℕ → Option PlanFault) (from n : ℕ) → ((k : ℕ) → k < from + n → f k ≡ h k)
    → first_along f (range_with_len from n) ≡ first_along h (range_with_len from n)
same_along f h from zero same = refl
same_along f h from (suc n) same =
    ap₂ option_or (same from (omega arith)) (same_along f h (from + 1) n (λ k below. same k (omega (arith, below))))

-- a stage without a fault is passed over
pub passed : (f : ℕ → Option PlanFault) (k n : ℕ) → k < n → f k ≡ None
    → first_along f (range_with_len k (n - k)) ≡ first_along f (range_with_len (k + 1) (n - (k + 1)))
passed f k n below none =
    ap (λ m. first_along f (range_with_len k m)) (let z : n - k ≡ suc (n - (k + 1)) = omega (arith, below) in z)
    ∙ ap (λ o. option_or o (first_along f (range_with_len (k + 1) (n - (k + 1))))) none

-- a fault that is found is the first
pub stopped : (f : ℕ → Option PlanFault) (k n : ℕ) (fault : PlanFault) → k < n → f k ≡ Some fault
    → first_along f (range_with_len k (n - k)) ≡ Some fault
stopped f k n fault below found =
    ap (λ m. first_along f (range_with_len k m)) (let z : n - k ≡ suc (n - (k + 1)) = omega (arith, below) in z)
    ∙ ap (λ o. option_or o (first_along f (range_with_len (k + 1) (n - (k + 1))))) found

-- none is left
pub no_more : (f : ℕ → Option PlanFault) (k n : ℕ) → n ≤ k → first_along f (range_with_len k (n - k)) ≡ None
no_more f k n past = ap (λ m. first_along f (range_with_len k m)) (let z : n - k ≡ 0 = omega (arith, past) in z)

module _ (g : AttributeGrammar) (s : Schedule) (t : Forest) (counts : List StageReads)
    (are : AreCounts g s t (instance_count g t) counts) where
  all_cells : take (instance_count g t) (instances g t) ≡ instances g t
  all_cells = take_all (instance_count g t) (instances g t) (let e = length-instances g t in omega (arith, e))

  whole : (k : ℕ) → k < length s → get_or counts k no_reads ≡ reads_of_steps g t (steps_of_stage g t s k)
  whole k below =
      are.each k below ∙ ap (λ xs. reads_of_steps g t (filter (is_of_stage g s k) xs)) all_cells

  maps_twice : (n : ℕ) (o : Option Instance)
      → option_map (StepTooWide n) (option_map (read_count g t) o) ≡ option_map (λ i. StepTooWide n (read_count g t
      i)) o
  maps_twice n None = refl
  maps_twice n (Some i) = refl

  pub many_is : first_along (many_by counts) (range_with_len 0 (length counts)) ≡ first_of_stages s (too_many_reads
      g s t)
  many_is =
      ap (λ n. first_along (many_by counts) (range_with_len 0 n)) are.stages
      ∙ same_along (many_by counts) (too_many_reads g s t) 0 (length s)
      (λ k below.
      ap (λ (c : StageReads). fault_past 67108864 (TooManyReads (k + 1)) c.total) (whole k (omega (arith, below))))

  pub wide_is : first_along (wide_by counts) (range_with_len 0 (length counts)) ≡ first_of_stages s (step_too_wide
      g s t)
  wide_is =
      ap (λ n. first_along (wide_by counts) (range_with_len 0 n)) are.stages
      ∙ same_along (wide_by counts) (step_too_wide g s t) 0 (length s)
      (λ k below.
      ap (λ (c : StageReads). option_map (StepTooWide (k + 1)) c.wide) (whole k (omega (arith, below)))
      ∙ maps_twice (k + 1) (find (λ i. nat_lt 1048576 (read_count g t i)) (steps_of_stage g t s k)))
