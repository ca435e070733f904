-- Where no attribute has two entries, memory alone can be lacking for their places.
use Rattle.std.proofs.Common.{◌≡◌, ◌∙◌, refl, sym, subst, Result, Ok, Err, IfOk}
use Rattle.std.specs.Prelude.{IfErr}
use Rattle.ftl_model.specs.layout.Outcome.{Gives}
use Rattle.ftl_order.specs.declared.faults.fault.VerifyFault.{VerifyFault}
use Rattle.ftl_order.specs.declared.faults.fault.VerifyFault.TheVariants.{Missing, OutOfMemory, Twice, Unordered}

-- the value, as a result of this type
abbrev found : (X : Type 0) → X → Result X VerifyFault
found X x = Ok x

apart : {X : Type 0} (s : X) (fault : VerifyFault) → found X s ≡ Err fault → ⊥
apart s fault e = cc

no_fault : {X : Type 0} (s : X) (whole : Result X VerifyFault) (fault : VerifyFault) → whole ≡ Ok s → whole ≡ Err fault
    → ⊥
no_fault s whole fault is told = apart s fault (sym is ∙ told)

pub memory_alone : {X : Type 0} (s : X) (whole r : Result X VerifyFault) → whole ≡ Ok s
    → Gives OutOfMemory (λ (p : X). p) r whole → IfErr r (λ fault. fault ≡ OutOfMemory)
memory_alone s whole (Ok p) is gives = tt
memory_alone s whole (Err OutOfMemory) is gives = refl
memory_alone s whole (Err (Twice a)) is gives = absurd (no_fault s whole (Twice a) is (gives (λ e. cc)))
memory_alone s whole (Err (Missing a)) is gives = absurd (no_fault s whole (Missing a) is (gives (λ e. cc)))
memory_alone s whole (Err (Unordered reader writer)) is gives =
    absurd (no_fault s whole (Unordered reader writer) is (gives (λ e. cc)))

-- and what is given is what was looked at
ok_is : {X : Type 0} (s p : X) → found X s ≡ Ok p → s ≡ p
ok_is s p e = cc

pub given_is : {X : Type 0} (s : X) (whole r : Result X VerifyFault) (P : X → Type 0) → whole ≡ Ok s
    → Gives OutOfMemory (λ (p : X). p) r whole → P s → IfOk r P
given_is s whole (Ok p) P is gives holds = subst P (ok_is s p (sym is ∙ gives)) holds
given_is s whole (Err fault) P is gives holds = tt
