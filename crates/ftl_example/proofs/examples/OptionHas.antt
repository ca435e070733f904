-- What holds of a value that is there.
use Rattle.std.proofs.Common.{◌≡◌, false, refl, sym, subst, Option, None, Some, Err, Ok}
use Rattle.std.specs.Option.{IsSome, is_some}
use Rattle.std.specs.Prelude.{IfOk, IfSome, Result}
use Rattle.std.specs.Result.{IsErrAnd}

pub some_has : {X : Type 0} {P Q : X → Type 0} (r : Option X) → IfSome r P → ((x : X) → P x → Q x) → IfSome r Q
some_has None has by = tt
some_has (Some x) has by = by x has

pub not_some : {X : Type 0} (r : Option X) → is_some r ≡ false → r ≡ None
not_some None e = refl
not_some (Some x) e = absurd (let z : ⊥ = cc (e) in z)

pub some_unless : {X : Type 0} (r : Option X) → (r ≡ None → ⊥) → IsSome r
some_unless None never = absurd (never refl)
some_unless (Some x) never = refl

pub some_is : {X : Type 0} (P : X → Type 0) (r : Option X) (x : X) → r ≡ Some x → IfSome r P → P x
some_is {X = X} P r x e has = subst (λ (o : Option X). IfSome o P) e has

pub ok_has : {X E : Type 0} {P Q : X → Type 0} (r : Result X E) → IfOk r P → ((x : X) → P x → Q x) → IfOk r Q
ok_has (Ok x) has by = by x has
ok_has (Err e) has by = tt

pub err_is : {X E : Type 0} (r : Result X E) (x y : E) → IsErrAnd r (λ e. e ≡ x) → r ≡ Err y → x ≡ y
err_is {X = X} {E = E} r x y h e = sym (subst (λ (q : Result X E). IsErrAnd q (λ (z : E). z ≡ x)) e h)
