-- A chain that takes each computed attribute is an ordered schedule.
use Rattle.std.proofs.Common.{◌≡◌, ◌⊎◌, ℕ, suc, true, false, if◌then◌else◌, sym, ◌∙◌, ap, subst}
use Rattle.std.proofs.Common.{inl, inr, ⊎_elim, arith, List, [], ◌∷◌, ◌++◌, get_or, Contains}
use Rattle.std.proofs.lemmas.Bool.{false_from_ne_true}
use Rattle.std.proofs.lemmas.List.Elements.{Contains-append_cases, Contains-append_left, Contains-append_right}
use Rattle.ftl_model.specs.lists.Lists.{AreDistinct, is_listed, place_in}
use Rattle.ftl_model.proofs.lists.Elements.{distinct-append, nothing_in}
use Rattle.ftl_model.proofs.lists.Listed.{is_there, listed}
use Rattle.ftl_model.specs.layout.AttributeGrammar.{AttributeGrammar, Read}
use Rattle.ftl_order.specs.orders.Ordered.{IsOrderedPair, IsOrderedRead, Row, VisitPlace, visit_place}
use Rattle.ftl_order.specs.orders.Pairs.{IsPair, Pair, Where}
use Rattle.ftl_order.specs.orders.Schedule.{Pass, Schedule, SchedulePlace, entries, pass_at}
use Rattle.ftl_order.specs.orders.Schedule.{pass_of, placing_of, stage_of}
use Rattle.ftl_order.specs.automatic.Automatic.{IsChainAfter}
use Rattle.ftl_order.specs.automatic.Fitting.{Fits, IsComputed, defined_by_reader, placing_after, written}
use Rattle.ftl_order.proofs.automatic.PairsInPass.{Met, in_pass, is_done, met, row_moves}
use Rattle.ftl_order.proofs.automatic.Ones.{next_fits}
use Rattle.ftl_order.proofs.automatic.Turns.{cases_in}

-- one stage more stands before
abbrev moved : SchedulePlace → SchedulePlace
moved x = record { stage = suc x.stage; pass = x.pass; kind = x.kind; index = x.index }

-- the entries of a stage of one pass and of the stages behind it
pub entry_cases : (pass : Pass) (stages : Schedule) (a : ℕ) → Contains (entries ((pass ∷ []) ∷ stages)) a
    → Contains pass.attributes a ⊎ Contains (entries stages) a
entry_cases pass stages a h =
    ⊎_elim
    (λ here. inl (⊎_elim (λ it. it) (λ none. absurd (nothing_in a none)) (Contains-append_cases pass.attributes [] a here)))
    (λ later. inr later) (Contains-append_cases (pass.attributes ++ []) (entries stages) a h)

pub entry_here : (pass : Pass) (stages : Schedule) (a : ℕ) → Contains pass.attributes a
    → Contains (entries ((pass ∷ []) ∷ stages)) a
entry_here pass stages a h =
    Contains-append_left (pass.attributes ++ []) (entries stages) a (Contains-append_left pass.attributes [] a h)

pub entry_later : (pass : Pass) (stages : Schedule) (a : ℕ) → Contains (entries stages) a
    → Contains (entries ((pass ∷ []) ∷ stages)) a
entry_later pass stages a h = Contains-append_right (pass.attributes ++ []) (entries stages) a h

module _ (pass : Pass) (stages : Schedule) where
  abbrev schedule_place_at : (a stage pass_number : ℕ) → SchedulePlace
  schedule_place_at a stage number =
      record {
        stage = stage;
        pass = number;
        kind = (pass_at ((pass ∷ []) ∷ stages) stage number).kind;
        index = place_in (pass_at ((pass ∷ []) ∷ stages) stage number).attributes a;
      }

  abbrev schedule_place_in : (a stage : ℕ) → SchedulePlace
  schedule_place_in a stage = schedule_place_at a stage (pass_of (get_or ((pass ∷ []) ∷ stages) stage []) a)

  stands_here : (a : ℕ) → Contains pass.attributes a
      → placing_of ((pass ∷ []) ∷ stages) a
      ≡ record { stage = 0; pass = 0; kind = pass.kind; index = place_in pass.attributes a }
  stands_here a h =
      ap (λ b. schedule_place_in a (if (if b then true else false) then 0 else suc (stage_of stages a)))
      (listed pass.attributes a h)
      ∙ ap (λ b. schedule_place_at a 0 (if b then 0 else 1)) (listed pass.attributes a h)

  stands_later : (a : ℕ) → (Contains pass.attributes a → ⊥)
      → placing_of ((pass ∷ []) ∷ stages) a ≡ moved (placing_of stages a)
  stands_later a out =
      ap (λ b. schedule_place_in a (if (if b then true else false) then 0 else suc (stage_of stages a)))
      (false_from_ne_true (is_listed pass.attributes a) (λ e. out (is_there pass.attributes a e)))

  -- a read of two of the first pass
  here_ordered : (runs_at : Where) (r : Read) (x y : VisitPlace) (done : List ℕ) → Contains pass.attributes x.attribute
      → Contains pass.attributes y.attribute → Row runs_at pass.kind (placing_after done pass.kind pass.attributes) r x y
      → IsOrderedRead (placing_of ((pass ∷ []) ∷ stages)) runs_at r x y
  here_ordered runs_at r x y done in_x in_y row =
      let s = (pass ∷ []) ∷ stages in
      let ex = stands_here x.attribute in_x in
      let ey = stands_here y.attribute in_y in
      let px = ap (λ (z : SchedulePlace). z.index) ex in
      let py = ap (λ (z : SchedulePlace). z.index) ey in
      inr (
        (
          ap (λ (z : SchedulePlace). z.stage) ex ∙ sym (ap (λ (z : SchedulePlace). z.stage) ey),
          ap (λ (z : SchedulePlace). z.pass) ex ∙ sym (ap (λ (z : SchedulePlace). z.pass) ey),
        ),
        subst (λ k. Row runs_at k (placing_of s) r x y) (sym (ap (λ (z : SchedulePlace). z.kind) ey))
            (row_moves runs_at pass.kind (placing_after done pass.kind pass.attributes) (placing_of s) r x y
            (λ key. ⊎_elim (λ less. inl (omega (arith, px, py, less))) (λ same. inr (px ∙ same.0 ∙ sym py, same.1)) key)
            row),
      )

  -- a read of one of the first pass by a later one
  across_ordered : (runs_at : Where) (r : Read) (x y : VisitPlace) → Contains pass.attributes x.attribute
      → (Contains pass.attributes y.attribute → ⊥) → IsOrderedRead (placing_of ((pass ∷ []) ∷ stages)) runs_at r x y
  across_ordered runs_at r x y in_x out_y =
      let ex = ap (λ (z : SchedulePlace). z.stage) (stands_here x.attribute in_x) in
      let ey = ap (λ (z : SchedulePlace). z.stage) (stands_later y.attribute out_y) in
      inl (omega (arith, ex, ey))

  -- a read of two later ones
  later_ordered : (runs_at : Where) (r : Read) (x y : VisitPlace) → (Contains pass.attributes x.attribute → ⊥)
      → (Contains pass.attributes y.attribute → ⊥) → IsOrderedRead (placing_of stages) runs_at r x y
      → IsOrderedRead (placing_of ((pass ∷ []) ∷ stages)) runs_at r x y
  later_ordered runs_at r x y out_x out_y h =
      let s = (pass ∷ []) ∷ stages in
      let ex = stands_later x.attribute out_x in
      let ey = stands_later y.attribute out_y in
      let sx = ap (λ (z : SchedulePlace). z.stage) ex in
      let sy = ap (λ (z : SchedulePlace). z.stage) ey in
      let px = ap (λ (z : SchedulePlace). z.index) ex in
      let py = ap (λ (z : SchedulePlace). z.index) ey in
      ⊎_elim (λ less. inl (omega (arith, sx, sy, less)))
      (λ row. inr (
        (
          (let e = row.0.0 in omega (arith, sx, sy, e)),
          ap (λ (z : SchedulePlace). z.pass) ex ∙ row.0.1 ∙ sym (ap (λ (z : SchedulePlace). z.pass) ey),
        ),
        subst (λ k. Row runs_at k (placing_of s) r x y) (sym (ap (λ (z : SchedulePlace). z.kind) ey))
            (row_moves runs_at (placing_of stages y.attribute).kind (placing_of stages) (placing_of s) r x y
            (λ key. ⊎_elim (λ less. inl (omega (arith, px, py, less))) (λ same. inr (px ∙ same.0 ∙ sym py, same.1)) key)
            row.1),
      ))
      h

-- each read of an entry is of what was done before, or ordered
abbrev pub ReadsMet : AttributeGrammar → (done : List ℕ) → Schedule → Type 0
ReadsMet g done s =
    (pair : Pair) → IsPair g pair → Contains (entries s) (defined_by_reader g pair)
    → Contains done (written g pair) ⊎ IsOrderedPair g (placing_of s) pair

module _ (g : AttributeGrammar) where
  stage_met : (done : List ℕ) (pass : Pass) (stages : Schedule) → Fits g pass.kind done pass.attributes
      → ReadsMet g (done ++ pass.attributes) stages → ReadsMet g done ((pass ∷ []) ∷ stages)
  stage_met done pass stages fits rest pair is h =
      let x = visit_place g pair.writer in
      let y = visit_place g pair.reader in
      let here : Contains pass.attributes y.attribute
      → Contains done x.attribute ⊎ IsOrderedPair g (placing_of ((pass ∷ []) ∷ stages)) pair =
      λ in_y. by_met in_y
      (met done pass.kind pass.attributes pair.runs_at pair.read x y (fits.not_done y.attribute in_y) in_y
      (fits.ordered pair is in_y)) in
      ⊎_elim here
      (λ out_y.
      ⊎_elim (λ now. absurd (out_y now))
      (λ later. by_later out_y (rest pair is later)) (entry_cases pass stages y.attribute h))
      (cases_in pass.attributes y.attribute)
    where
      by_met : Contains pass.attributes (defined_by_reader g pair)
          → Met done pass.kind pass.attributes pair.runs_at pair.read (visit_place g pair.writer)
          (visit_place g pair.reader)
          → Contains done (written g pair) ⊎ IsOrderedPair g (placing_of ((pass ∷ []) ∷ stages)) pair
      by_met in_y (is_done d) = inl d
      by_met in_y (in_pass in_x row) =
          inr (here_ordered pass stages pair.runs_at pair.read (visit_place g pair.writer) (visit_place g pair.reader)
          done in_x in_y row)

      by_later : (Contains pass.attributes (defined_by_reader g pair) → ⊥)
          → Contains (done ++ pass.attributes) (written g pair) ⊎ IsOrderedPair g (placing_of stages) pair
          → Contains done (written g pair) ⊎ IsOrderedPair g (placing_of ((pass ∷ []) ∷ stages)) pair
      by_later out_y h =
          let x = visit_place g pair.writer in
          let y = visit_place g pair.reader in
          let in_pass_too : Contains pass.attributes x.attribute
          → Contains done x.attribute ⊎ IsOrderedPair g (placing_of ((pass ∷ []) ∷ stages)) pair =
          λ in_x. inr (across_ordered pass stages pair.runs_at pair.read x y in_x out_y) in
          ⊎_elim
          (λ old. ⊎_elim (λ d. inl d) in_pass_too (Contains-append_cases done pass.attributes x.attribute old))
          (λ ordered.
          ⊎_elim in_pass_too
          (λ out_x. inr (later_ordered pass stages pair.runs_at pair.read x y out_x out_y ordered))
          (cases_in pass.attributes x.attribute))
          h

  pub reads_met : (done : List ℕ) (s : Schedule) → IsChainAfter g done s → ReadsMet g done s
  reads_met done [] h = λ pair is there. absurd (nothing_in (defined_by_reader g pair) there)
  reads_met done (passes ∷ stages) h =
      subst (λ p. ReadsMet g done (p ∷ stages)) (sym h.1)
      (stage_met done h.0 stages (next_fits g done h.0 h.2) (reads_met (done ++ h.0.attributes) stages h.4))

  -- the entries of a chain
  pub record AreNew (done xs : List ℕ) : Type 0 where
    pub distinct : AreDistinct xs
    pub computed : (a : ℕ) → Contains xs a → IsComputed g a
    pub not_done : (a : ℕ) → Contains xs a → Contains done a → ⊥

  stage_new : (done : List ℕ) (pass : Pass) (stages : Schedule) → Fits g pass.kind done pass.attributes
      → AreNew (done ++ pass.attributes) (entries stages) → AreNew done (entries ((pass ∷ []) ∷ stages))
  stage_new done pass stages fits rest =
      record {
        distinct = distinct-append (pass.attributes ++ []) (entries stages)
            (distinct-append pass.attributes [] fits.distinct tt (λ a here none. nothing_in a none)) rest.distinct
            (λ a here later. rest.not_done a later (Contains-append_right done pass.attributes a
            (⊎_elim (λ it. it) (λ none. absurd (nothing_in a none)) (Contains-append_cases pass.attributes [] a here))));
        computed = λ a h. ⊎_elim (λ here. fits.computed a here) (λ later. rest.computed a later)
            (entry_cases pass stages a h);
        not_done = λ a h old. ⊎_elim (λ here. fits.not_done a here old)
            (λ later. rest.not_done a later (Contains-append_left done pass.attributes a old))
            (entry_cases pass stages a h);
      }

  pub entries_new : (done : List ℕ) (s : Schedule) → IsChainAfter g done s → AreNew done (entries s)
  entries_new done [] h =
      record {
        distinct = tt;
        computed = λ a none. absurd (nothing_in a none);
        not_done = λ a none old. nothing_in a none;
      }
  entries_new done (passes ∷ stages) h =
      subst (λ p. AreNew done (entries (p ∷ stages))) (sym h.1)
      (stage_new done h.0 stages (next_fits g done h.0 h.2) (entries_new (done ++ h.0.attributes) stages h.4))
