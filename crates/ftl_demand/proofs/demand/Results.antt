-- Facts of results.
use Rattle.std.specs.Prelude.{Result, Ok, Err}
use Rattle.std.specs.Result.{IfOk}

pub ok_map : {A E : Type 0} (P Q : A → Type 0) → ((x : A) → P x → Q x) → (r : Result A E) → IfOk r P → IfOk r Q
ok_map P Q to (Ok x) h = to x h
ok_map P Q to (Err e) h = tt
