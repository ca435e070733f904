-- Trails that grow at their end.
use Rattle.std.proofs.Common.{◌≡◌, ℕ, ◌+◌, ◌<◌, ◌≤◌, refl, ◌∙◌, ap, arith, ⊎_elim, List, [], ◌∷◌, ◌++◌, length, get_or, set}
use Rattle.std.specs.List.{All}
use Rattle.std.specs.Prelude.{OnOk}
use Rattle.std.specs.declared.result.Result.{Result}
use Rattle.std.specs.declared.result.Result.TheVariants.{Ok, Err}
use Rattle.std.proofs.lemmas.Bool.{cases_lt}
use Rattle.std.proofs.lemmas.List.{get_or-append-add, get_or_append_left, length-append, set-get_or, set-set}
use Rattle.ftl_model.specs.layout.Values.{Value}
use Rattle.ftl_relayout.specs.queue.Trails.{cells_of, total_cost, undone}
use Rattle.ftl_relayout.specs.declared.queue.trail.Before.{Before}

pub undone-last : (bs : List Before) (b : Before) (vs : List Value)
    → undone (bs ++ (b ∷ [])) vs ≡ undone bs (set vs b.cell b.value)
undone-last [] b vs = refl
undone-last (x ∷ bs) b vs = ap (λ ws. set ws x.cell x.value) (undone-last bs b vs)

pub cells-last : (bs : List Before) (b : Before) → cells_of (bs ++ (b ∷ [])) ≡ cells_of bs ++ (b.cell ∷ [])
cells-last [] b = refl
cells-last (x ∷ bs) b = ap (λ xs. x.cell ∷ xs) (cells-last bs b)

pub cost-last : (cost : ℕ → ℕ) (xs : List ℕ) (x : ℕ) → total_cost cost (xs ++ (x ∷ [])) ≡ total_cost cost xs + cost x
cost-last cost [] x = let z : cost x + 0 ≡ 0 + cost x = omega arith in z
cost-last cost (y ∷ xs) x = let i = cost-last cost xs x in omega (arith, i)

-- a write of what was there is taken back by itself, and after another
pub undone_same : (bs : List Before) (b : Before) (vs : List Value) (d : Value) → b.value ≡ get_or vs b.cell d
    → undone (bs ++ (b ∷ [])) vs ≡ undone bs vs
undone_same bs b vs d is =
    undone-last bs b vs ∙ ap (λ v. undone bs (set vs b.cell v)) is ∙ ap (undone bs) (set-get_or vs b.cell d)

pub undone_written : (bs : List Before) (b : Before) (vs : List Value) (v d : Value) → b.value ≡ get_or vs b.cell d
    → undone (bs ++ (b ∷ [])) (set vs b.cell v) ≡ undone bs vs
undone_written bs b vs v d is =
    undone-last bs b (set vs b.cell v)
    ∙ ap (undone bs) (set-set vs b.cell v b.value ∙ ap (set vs b.cell) is ∙ set-get_or vs b.cell d)

pub more_spent : (cost : ℕ → ℕ) (bs : List Before) (b : Before) (spent after : ℕ) → after ≤ spent + cost b.cell
    → after + total_cost cost (cells_of bs) ≤ spent + total_cost cost (cells_of (bs ++ (b ∷ [])))
more_spent cost bs b spent after few =
    let e = ap (total_cost cost) (cells-last bs b) ∙ cost-last cost (cells_of bs) b.cell in omega (arith, e, few)

-- what holds of all writes holds of those before the last
pub front_within : (n m : ℕ) (all bs : List Before) (b : Before) → all ≡ bs ++ (b ∷ []) → m ≡ n
    → All (λ b. b.cell < n) all → All (λ b. b.cell < m) bs
front_within n m all bs b is e h k d below =
    let long : length all ≡ length bs + 1 = ap length is ∙ length-append bs (b ∷ []) in
    let at : get_or all k d ≡ get_or bs k d = ap (λ xs. get_or xs k d) is ∙ get_or_append_left bs (b ∷ []) d k below in
    let w = h k d (omega (arith, long, below)) in
    let same : (get_or all k d).cell ≡ (get_or bs k d).cell = ap (λ x. x.cell) at in
    omega (arith, w, same, e)

pub more_within : (n m : ℕ) (all bs : List Before) (b : Before) → all ≡ bs ++ (b ∷ []) → m ≡ n → b.cell < m
    → All (λ b. b.cell < n) bs → All (λ b. b.cell < m) all
more_within n m all bs b is e last h k d below =
    let long : length all ≡ length bs + 1 = ap length is ∙ length-append bs (b ∷ []) in
    ⊎_elim
    (λ less.
    let at : get_or all k d ≡ get_or bs k d = ap (λ xs. get_or xs k d) is ∙ get_or_append_left bs (b ∷ []) d k less in
    let w = h k d less in
    let same : (get_or all k d).cell ≡ (get_or bs k d).cell = ap (λ x. x.cell) at in
    omega (arith, w, same, e))
    (λ more.
    let place : k ≡ length bs + 0 = omega (arith, more, below, long) in
    let at : get_or all k d ≡ b =
    ap (λ xs. get_or xs k d) is ∙ ap (λ n. get_or (bs ++ (b ∷ [])) n d) place ∙ get_or-append-add bs (b ∷ []) 0 d in
    let same : (get_or all k d).cell ≡ b.cell = ap (λ x. x.cell) at in
    omega (arith, last, same))
    (cases_lt k (length bs))

pub on_ok : {A B X E : Type 0} (r : Result X E) → (A → B) → OnOk r A → OnOk r B
on_ok (Ok x) f h = f h
on_ok (Err e) f h = h
