-- One list more, side by side with others.
use Rattle.std.proofs.Common.{◌≡◌, ℕ, ◌+◌, ◌-◌, ◌<◌, ◌≤◌, List, [], ◌∷◌, ◌++◌, drop, get_or, length, map, take, refl, sym, ◌∙◌, ap, ap₂, ⊎_elim, arith, length-append}
use Rattle.std.specs.List.{range_with_len, slice_range}
use Rattle.std.proofs.Math.Seq.{drop-append_seam, get_or-append_seam, take-length}
use Rattle.std.proofs.lemmas.Bool.{cases_lt}
use Rattle.std.proofs.lemmas.List.{drop-append-le, get_or_append_left, length-drop, take-append-le}
use Rattle.std.proofs.lemmas.List.FromFn.{get_or-map-range_with_len, length-map-range_with_len, map-range_with_len_more}
use Rattle.ftl_model.proofs.lists.Elements.{here_in, in_range_from, later_in}
use Rattle.std.proofs.Common.{Contains}
use Rattle.ftl_visit.specs.passes.Runs.{IsCut, run, runs}

-- a part of a list is a part of a longer one
part_stays : {X : Type 0} (xs more : List X) (a b : ℕ) → a ≤ b → b ≤ length xs
    → slice_range (xs ++ more) a b ≡ slice_range xs a b
part_stays xs more a b order within =
    let before : a ≤ length xs = omega arith in
    let room : b - a ≤ length (drop a xs) = omega (arith, length-drop a xs) in
    ap (take (b - a)) (drop-append-le a xs more before) ∙ take-append-le (b - a) (drop a xs) more room

-- what comes last is the last part
part_added : {X : Type 0} (xs more : List X) → slice_range (xs ++ more) (length xs) (length xs + length more) ≡ more
part_added xs more =
    let long : length xs + length more - length xs ≡ length more = omega arith in
    ap₂ take long (drop-append_seam xs more) ∙ take-length more

-- functions that agree on a list
map_same : {X Y : Type 0} (f h : X → Y) (xs : List X) → ((x : X) → Contains xs x → f x ≡ h x) → map f xs ≡ map h xs
map_same f h [] same = refl
map_same f h (x ∷ xs) same =
    ap₂ (λ y ys. y ∷ ys) (same x (here_in x xs)) (map_same f h xs (λ y there. same y (later_in x y xs there)))

module _ {X : Type 0} (starts : List ℕ) (xs more : List X) (cut : IsCut starts xs) where
  abbrev next : ℕ
  next = length (xs ++ more)

  abbrev longer : List ℕ
  longer = starts ++ next ∷ []

  long : length longer ≡ length starts + 1
  long = length-append starts (next ∷ [])

  ends : next ≡ length xs + length more
  ends = length-append xs more

  old_start : (n : ℕ) → n < length starts → get_or longer n 0 ≡ get_or starts n 0
  old_start n known = get_or_append_left starts (next ∷ []) 0 n known

  new_start : (n : ℕ) → n ≡ length starts → get_or longer n 0 ≡ next
  new_start n is = ap (λ m. get_or longer m 0) is ∙ get_or-append_seam starts next [] 0

  last_start : (n : ℕ) → n + 1 ≡ length starts → get_or starts n 0 ≡ length xs
  last_start n is =
      ap (λ m. get_or starts m 0) (let z : n ≡ length starts - 1 = omega arith in z) ∙ cut.last

  run_stays : (n : ℕ) → n + 1 < length starts → run longer (xs ++ more) n ≡ run starts xs n
  run_stays n known =
      ap₂ (slice_range (xs ++ more)) (old_start n (let z : n < length starts = omega arith in z))
      (old_start (n + 1) known)
      ∙ part_stays xs more (get_or starts n 0) (get_or starts (n + 1) 0) (cut.rising n known) (cut.within (n + 1) known)

  run_added : (n : ℕ) → n + 1 ≡ length starts → run longer (xs ++ more) n ≡ more
  run_added n is =
      ap₂ (slice_range (xs ++ more))
      (old_start n (let z : n < length starts = omega arith in z) ∙ last_start n is)
      (new_start (n + 1) is ∙ ends)
      ∙ part_added xs more

  pub runs_more : runs longer (xs ++ more) ≡ runs starts xs ++ more ∷ []
  runs_more =
      let n = length starts - 1 in
      let some = cut.some in
      let is : n + 1 ≡ length starts = omega arith in
      let one : length longer - 1 ≡ n + 1 = omega (arith, long) in
      ap (λ m. map (run longer (xs ++ more)) (range_with_len 0 m)) one
      ∙ map-range_with_len_more (run longer (xs ++ more)) 0 n n (let z : 0 + n ≡ n = omega arith in z)
      ∙ ap₂ (λ a b. a ++ b ∷ [])
      (map_same (run longer (xs ++ more)) (run starts xs) (range_with_len 0 n)
      (λ k there.
      let below = (in_range_from 0 n k there).1 in
      run_stays k (let z : k + 1 < length starts = omega arith in z)))
      (run_added n is)

  rises : (n : ℕ) → n + 1 < length longer → get_or longer n 0 ≤ get_or longer (n + 1) 0
  rises n known =
      let here : n < length starts = omega (arith, long) in
      ⊎_elim
      (λ (less : n + 1 < length starts).
      let old = cut.rising n less in
      let a = old_start n here in
      let b = old_start (n + 1) less in
      (let z : get_or longer n 0 ≤ get_or longer (n + 1) 0 = omega arith in z))
      (λ (more_than : length starts ≤ n + 1).
      let is : n + 1 ≡ length starts = omega (arith, long) in
      let a = old_start n here in
      let b = new_start (n + 1) is in
      let low = cut.within n here in
      let e = ends in
      (let z : get_or longer n 0 ≤ get_or longer (n + 1) 0 = omega arith in z))
      (cases_lt (n + 1) (length starts))

  inside : (n : ℕ) → n < length longer → get_or longer n 0 ≤ length (xs ++ more)
  inside n known =
      ⊎_elim
      (λ (less : n < length starts).
      let a = old_start n less in
      let low = cut.within n less in
      let e = ends in
      (let z : get_or longer n 0 ≤ length (xs ++ more) = omega arith in z))
      (λ (more_than : length starts ≤ n).
      let b = new_start n (let z : n ≡ length starts = omega (arith, long) in z) in
      (let z : get_or longer n 0 ≤ length (xs ++ more) = omega arith in z))
      (cases_lt n (length starts))

  pub cut_more : IsCut longer (xs ++ more)
  cut_more =
      record {
        some = omega (arith, long);
        rising = rises;
        within = inside;
        last = new_start (length longer - 1) (let z : length longer - 1 ≡ length starts = omega (arith, long) in z);
      }

-- a list that is among them has its start, and the next one
pub run_known : {X : Type 0} (starts : List ℕ) (xs : List X) (all : List (List X)) (n : ℕ) → runs starts xs ≡ all
    → n < length all → n + 1 < length starts
run_known starts xs all n is known =
    omega (arith, ap length is, length-map-range_with_len (run starts xs) 0 (length starts - 1))

-- and is what stands between
pub run_is : {X : Type 0} (starts : List ℕ) (xs : List X) (all : List (List X)) (n : ℕ) → runs starts xs ≡ all
    → n < length all → run starts xs n ≡ get_or all n []
run_is {X = X} starts xs all n is known =
    let next = run_known starts xs all n is known in
    sym (get_or-map-range_with_len (run starts xs) 0 (length starts - 1) n n []
    (let z : n < length starts - 1 = omega arith in z) (let z : 0 + n ≡ n = omega arith in z))
    ∙ ap (λ (ys : List (List X)). get_or ys n []) is
