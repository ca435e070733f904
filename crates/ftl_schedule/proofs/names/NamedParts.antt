-- What a schedule by number comes from, where no name has a fault.
use Rattle.std.proofs.Common.{◌≡◌, List, ◌∷◌, Result, Ok, Err, refl}
use Rattle.ftl_schedule.specs.names.Named.{before, each, made_of}
use Rattle.ftl_schedule.specs.declared.names.fault.ScheduleFault.{ScheduleFault}

pub same_Ok : {X : Type 0} (x y : X) → (let r : Result X ScheduleFault = Ok x in r) ≡ Ok y → x ≡ y
same_Ok x y e = cc

-- a value that is made comes from a value
pub made : {X Y P : Type 0} (f : X → Y) (r : Result X ScheduleFault) (y : Y) → made_of f r ≡ Ok y
    → ((x : X) → r ≡ Ok x → f x ≡ y → P) → P
made f (Ok x) y e next = next x refl (same_Ok (f x) y e)
made f (Err fault) y e next = absurd (cc e)

-- the first entry and the others, of what is made of a list
pub parts : {X Y P : Type 0} (f : X → Result Y ScheduleFault) (x : X) (xs : List X) (ys : List Y)
    → each f (x ∷ xs) ≡ Ok ys → ((z : Y) (zs : List Y) → f x ≡ Ok z → each f xs ≡ Ok zs → z ∷ zs ≡ ys → P) → P
parts {X} {Y} {P} f x xs ys e next = go (f x) refl (each f xs) refl e
  where
    go : (r : Result Y ScheduleFault) → f x ≡ r → (later : Result (List Y) ScheduleFault) → each f xs ≡ later
        → before r later ≡ Ok ys → P
    go (Err fault) is later is_later e = absurd (cc e)
    go (Ok z) is (Err fault) is_later e = absurd (cc e)
    go (Ok z) is (Ok zs) is_later e = next z zs is is_later (same_Ok (z ∷ zs) ys e)
