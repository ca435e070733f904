-- What a call that can refuse answers, seen beside the definition that it follows.
use Rattle.std.specs.Prelude.{◌≡◌, ◌≢◌, Result, Ok, Err}

-- the result is what the definition gives, seen through view, unless memory ran out
abbrev pub Gives : {X Y E : Type 0} → E → (X → Y) → Result X E → Result Y E → Type 0
Gives memory view (Ok x) expected = expected ≡ Ok (view x)
Gives memory view (Err e) expected = e ≢ memory → expected ≡ Err e
