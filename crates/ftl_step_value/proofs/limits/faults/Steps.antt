-- One instance more in the counts.
use Rattle.std.proofs.Common.{◌≡◌, ℕ, zero, suc, ◌+◌, ◌<◌, nat_lt, Bool, true, false, if◌then◌else◌, List, [], ◌∷◌, ◌++◌, length, get_or, filter, take, sum_by, Option, Some, None, refl, sym, ◌∙◌, ap, ap₂, arith}
use Rattle.std.specs.List.{find}
use Rattle.std.specs.Option.{option_map}
use Rattle.std.proofs.lemmas.List.Sums.{sum_by-append}
use Rattle.ftl_model.specs.layout.AttributeGrammar.{AttributeGrammar}
use Rattle.ftl_model.specs.layout.Solves.{Instance}
use Rattle.ftl_model.specs.layout.Table.{instances}
use Rattle.ftl_model.specs.layout.Tree.{Forest}
use Rattle.ftl_order.specs.orders.Schedule.{Schedule}
use Rattle.ftl_items.specs.stage_items.Limits.{is_of_stage, read_count}
use Rattle.ftl_step_value.specs.limits.faults.StageReads.{AreCounts, AreFurther, AreLittleMore, HaveRoom, or_wide, reads_of_steps, with_step, with_step_if}
use Rattle.ftl_step_value.specs.declared.limits.faults.reads.StageReads.{StageReads}

abbrev reads : ℕ → Option ℕ → StageReads
reads n o = record { total = n; wide = o }

pub take_one : {X : Type 0} (xs : List X) (n : ℕ) (d : X) → n < length xs
    → take (n + 1) xs ≡ take n xs ++ get_or xs n d ∷ []
take_one [] n d below = absurd (let z : ⊥ = omega (arith, below) in z)
take_one (x ∷ xs) zero d below = refl
take_one (x ∷ xs) (suc n) d below =
    ap (λ m. take m (x ∷ xs)) (let z : suc n + 1 ≡ suc (n + 1) = omega arith in z)
    ∙ ap (λ ys. x ∷ ys) (take_one xs n d (omega (arith, below)))

pub sum_more : {X : Type 0} (h : X → ℕ) (xs : List X) (x : X) → sum_by h (xs ++ x ∷ []) ≡ sum_by h xs + h x
sum_more h xs x =
    sum_by-append h xs (x ∷ [])
    ∙ ap (λ n. sum_by h xs + n) (let z : 0 + h x ≡ h x = omega arith in z)

module _ (g : AttributeGrammar) (t : Forest) where
  abbrev f : Instance → ℕ
  f i = read_count g t i

  abbrev test : Instance → Bool
  test i = nat_lt 1048576 (f i)

  wide_more : (xs : List Instance) (i : Instance)
      → option_map f (find test (xs ++ i ∷ [])) ≡ or_wide (option_map f (find test xs)) (f i)
  wide_more [] i =
      elim (test i) as
      (λ b. option_map f (if b then Some i else None) ≡ (if b then Some (f i) else None)) [ true ↦ refl | false ↦ refl ]
  wide_more (x ∷ xs) i =
      elim (test x) as
      (λ b. option_map f (if b then Some x else find test (xs ++ i ∷ []))
      ≡ or_wide (option_map f (if b then Some x else find test xs)) (f i)) [ true ↦ refl | false ↦ wide_more xs i ]

  steps_more : (xs : List Instance) (i : Instance)
      → reads_of_steps g t (xs ++ i ∷ []) ≡ with_step (reads_of_steps g t xs) (f i)
  steps_more xs i =
      ap₂ reads (sum_more f xs i) (wide_more xs i)

  filter_more : (p : Instance → Bool) (xs : List Instance) (i : Instance)
      → filter p (xs ++ i ∷ []) ≡ filter p xs ++ (if p i then i ∷ [] else [])
  filter_more p [] i = elim (p i) as (λ b. (if b then i ∷ [] else []) ≡ [] ++ (if b then i ∷ [] else [])) [
    | true ↦
        refl
    | false ↦ refl
  ]
  filter_more p (x ∷ xs) i =
      elim (p x) as
      (λ b. (if b then x ∷ filter p (xs ++ i ∷ []) else filter p (xs ++ i ∷ []))
      ≡ (if b then x ∷ filter p xs else filter p xs) ++ (if p i then i ∷ [] else []))
      [ true ↦ ap (λ ys. x ∷ ys) (filter_more p xs i) | false ↦ filter_more p xs i ]

  append_none : (xs : List Instance) → xs ++ [] ≡ xs
  append_none [] = refl
  append_none (x ∷ xs) = ap (λ ys. x ∷ ys) (append_none xs)

  filtered : (p : Instance → Bool) (xs : List Instance) (i : Instance)
      → reads_of_steps g t (filter p (xs ++ i ∷ [])) ≡ with_step_if (p i) (reads_of_steps g t (filter p xs)) (f i)
  filtered p xs i =
      ap (reads_of_steps g t) (filter_more p xs i)
      ∙ (elim (p i) as
      (λ b. reads_of_steps g t (filter p xs ++ (if b then i ∷ [] else []))
      ≡ with_step_if b (reads_of_steps g t (filter p xs)) (f i)) [
        | true ↦ steps_more (filter p xs) i
        | false ↦ ap (reads_of_steps g t) (append_none (filter p xs))
      ])

  -- the counts with the next instance
  pub counts_further : (s : Schedule) (cells : ℕ) (i : Instance) (old new : List StageReads) → AreCounts g s t cells old
      → cells < length (instances g t) → get_or (instances g t) cells i ≡ i → AreFurther g s t i old new
      → AreCounts g s t (cells + 1) new
  counts_further s cells i old new are below here further =
      record {
        stages = further.stages ∙ are.stages;
        each = λ k within.
            let inside : k < length old = (let e = are.stages in omega (arith, within, e)) in
            further.each k inside
            ∙ ap (λ c. with_step_if (is_of_stage g s k i) c (f i)) (are.each k within)
            ∙ sym (filtered (is_of_stage g s k) (take cells (instances g t)) i)
            ∙ ap (λ xs. reads_of_steps g t (filter (is_of_stage g s k) xs))
            (ap (λ j. take cells (instances g t) ++ j ∷ []) (sym here) ∙ sym (take_one (instances g t) cells i below));
      }

-- they keep their room
pub room_further : (cells : ℕ) (old new : List StageReads) → HaveRoom cells old → length new ≡ length old
    → AreLittleMore old new → HaveRoom (cells + 1) new
room_further cells old new room same little k within =
    let inside : k < length old = omega (arith, within, same) in
    let before = room k inside in
    let more = little k inside in
    omega (arith, before, more)
