-- What the rows of a stack say before a push and a pop.
use Rattle.std.proofs.Common.{◌≡◌, ℕ, suc, ◌+◌, ◌-◌, ◌<◌, List, [], ◌∷◌, ◌++◌, length, take, get_or, true, false}
use Rattle.std.proofs.Common.{ap, arith, ◌∙◌, sym, length-append, add-one, length-take}
use Rattle.std.specs.Prelude.{slice_set}
use Rattle.ftl_model.specs.layout.Values.{Value, overflow}
use Rattle.ftl_base.specs.declared.truth.Truth.{Truth}
use Rattle.ftl_base.specs.declared.truth.Truth.TheVariants.{No}
use Rattle.ftl_base.specs.declared.stack.Entry.{Entry}
use Rattle.ftl_base.specs.declared.stack.Entry.TheVariants.{Number, Test}
use Rattle.ftl_base.specs.declared.stack.CodeStack.TheInside.{Inside}
use Rattle.ftl_base.specs.StackRows.{entries_of, row_entries, stacked_of, AreStackRows}
use Rattle.ftl_base.specs.Stacked.{Stacked, EndsInValue, EndsInTruth}
use Rattle.ftl_base.proofs.RowLemmas.{Have, length-entries_of, set_value, set_truth, popped_value, popped_truth}

-- as many entries as the height says
height_is : (s : Inside) (v : Stacked) → stacked_of s ≡ v → AreStackRows s → length v.entries ≡ s.height
height_is s v e r =
    let n = length-entries_of _ _ _ s.depth r.marks r.values r.truths in
    let t = length-take s.height (row_entries s) in
    let a : length (stacked_of s).entries ≡ length v.entries = ap (λ (w : Stacked). length w.entries) e in
    omega (arith, r.height)

-- where there is room, the height is a place
pub has_place : (s : Inside) (v : Stacked) → stacked_of s ≡ v → AreStackRows s → length v.entries < v.room →
    s.height < s.depth
has_place s v e r h =
    let a : s.depth ≡ v.room = ap (λ (w : Stacked). w.room) e in
    omega (arith, height_is s v e r)

-- a place below the room is one of each row
pub have : (s : Inside) (k : ℕ) → AreStackRows s → k < s.depth → Have k s.marks.items s.values.items s.truths.items
have s k r h =
    record { mark = omega (arith, r.marks); value = omega (arith, r.values); truth = omega (arith, r.truths) }

-- the entries once a value stands at the height
pub pushed_value : (s : Inside) (v : Stacked) (x : Value) → stacked_of s ≡ v → AreStackRows s → length v.entries < v.room →
    (let marks = slice_set s.marks.items s.height false in
    let values = slice_set s.values.items s.height x in
    take (s.height + 1) (entries_of marks values s.truths.items) ≡ v.entries ++ Number x ∷ [])
pushed_value s v x e r h =
    rw add-one
    (set_value s.height _ _ _ x (have s s.height r (has_place s v e r h))
    ∙ ap (λ (w : Stacked). w.entries ++ Number x ∷ []) e)

-- the entries once a truth stands at the height
pub pushed_truth : (s : Inside) (v : Stacked) (x : Truth) → stacked_of s ≡ v → AreStackRows s → length v.entries < v.room →
    (let marks = slice_set s.marks.items s.height true in
    let truths = slice_set s.truths.items s.height x in
    take (s.height + 1) (entries_of marks s.values.items truths) ≡ v.entries ++ Test x ∷ [])
pushed_truth s v x e r h =
    rw add-one
    (set_truth s.height _ _ _ x (have s s.height r (has_place s v e r h))
    ∙ ap (λ (w : Stacked). w.entries ++ Test x ∷ []) e)

-- the height before a pop
above_zero : (s : Inside) (v : Stacked) (below : List Entry) (x : Entry) → stacked_of s ≡ v → AreStackRows s →
    v.entries ≡ below ++ x ∷ [] → s.height ≡ suc (s.height - 1)
above_zero s v below x e r q =
    omega (arith, height_is s v e r, ap length q, length-append below (x ∷ []))

-- the entries before the last one, a value, is taken off
pub value_popped : (s : Inside) (v : Stacked) (d : Value) → stacked_of s ≡ v → AreStackRows s → EndsInValue v.entries →
    v.entries ≡ take (s.height - 1) (row_entries s)
    ++ Number (get_or s.values.items (s.height - 1) d) ∷ []
value_popped s v d e r (below, x, q) =
    let k = s.height - 1 in
    let up = above_zero s v below (Number x) e r q in
    let now : take s.height (row_entries s) ≡ v.entries = ap (λ (w : Stacked). w.entries) e in
    let at : take (suc k) (row_entries s) ≡ v.entries = ap (λ (n : ℕ). take n (row_entries s)) (sym up) ∙ now in
    sym at ∙ popped_value k _ _ _ true d x No below (have s k r (omega (arith, r.height))) (at ∙ q)

-- the entries before the last one, a truth, is taken off
pub truth_popped : (s : Inside) (v : Stacked) (d : Truth) → stacked_of s ≡ v → AreStackRows s → EndsInTruth v.entries →
    v.entries ≡ take (s.height - 1) (row_entries s)
    ++ Test (get_or s.truths.items (s.height - 1) d) ∷ []
truth_popped s v d e r (below, x, q) =
    let k = s.height - 1 in
    let up = above_zero s v below (Test x) e r q in
    let now : take s.height (row_entries s) ≡ v.entries = ap (λ (w : Stacked). w.entries) e in
    let at : take (suc k) (row_entries s) ≡ v.entries = ap (λ (n : ℕ). take n (row_entries s)) (sym up) ∙ now in
    sym at ∙ popped_truth k _ _ _ true overflow d x below (have s k r (omega (arith, r.height))) (at ∙ q)
