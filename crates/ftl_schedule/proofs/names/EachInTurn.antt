-- What the entries of a list stand for, one entry after the other.
use Rattle.std.proofs.Common.{◌≡◌, ℕ, ◌+◌, ◌<◌, ◌≤◌, List, [], ◌∷◌, ◌++◌, length, drop, get_or, Result, Ok, Err, refl, sym, ◌∙◌, ap, append_assoc, add-one}
use Rattle.std.proofs.Math.Seq.{drop-cons}
use Rattle.std.proofs.lemmas.List.{append-nil, drop_all}
use Rattle.ftl_schedule.specs.names.Named.{after, before, each}
use Rattle.ftl_schedule.specs.declared.names.fault.ScheduleFault.{ScheduleFault}

module _ {X Y : Type 0} (f : X → Result Y ScheduleFault) (xs : List X) (i : ℕ) (found : List Y) where
  module _ (d : X) (within : i < length xs) where
    left : each f (drop i xs) ≡ before (f (get_or xs i d)) (each f (drop (i + 1) xs))
    left = ap (each f) (drop-cons xs i d within ∙ ap (λ n. get_or xs i d ∷ drop n xs) (sym (add-one i)))

    -- the entry stands for y
    pub each_more : (y : Y) → f (get_or xs i d) ≡ Ok y
        → after (found ++ y ∷ []) (each f (drop (i + 1) xs)) ≡ after found (each f (drop i xs))
    each_more y is =
        sym (ap (after found) (left ∙ ap (λ o. before o (each f (drop (i + 1) xs))) is) ∙ joined (each f (drop (i + 1) xs)))
      where
        joined : (later : Result (List Y) ScheduleFault)
            → after found (before (Ok y) later) ≡ after (found ++ y ∷ []) later
        joined (Ok ys) = ap Ok (sym (append_assoc found (y ∷ []) ys))
        joined (Err fault) = refl

    -- the entry has a fault
    pub each_fault : (fault : ScheduleFault) → f (get_or xs i d) ≡ Err fault → after found (each f (drop i xs)) ≡ Err fault
    each_fault fault is = ap (after found) (left ∙ ap (λ o. before o (each f (drop (i + 1) xs))) is)

  -- none is left
  pub each_end : length xs ≤ i → after found (each f (drop i xs)) ≡ Ok found
  each_end past = ap (λ l. after found (each f l)) (drop_all i xs past) ∙ ap Ok (append-nil found)
