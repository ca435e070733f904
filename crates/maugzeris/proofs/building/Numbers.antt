-- Numbers within the width, after a call that may be refused.
use Rattle.std.proofs.Common.{◌≡◌, ℕ, sym, subst, Result, Ok, Err}
use Rattle.std.specs.Prelude.{OnErr, OnOk}
use Rattle.ftl_building.specs.building.PartDocument.{PartDocument}
use Rattle.ftl_building.specs.building.PartWithin.{PartIsWithin}

-- the document has changed so, or is as before
pub stays_within : {A E : Type 0} (greatest : ℕ) (old new more : PartDocument) (r : Result A E) → OnOk r (new ≡ more)
    → OnErr r (new ≡ old) → PartIsWithin greatest old → PartIsWithin greatest more → PartIsWithin greatest new
stays_within greatest old new more (Ok x) ok err h m =
    subst (λ (p : PartDocument). PartIsWithin greatest p) (sym ok) m
stays_within greatest old new more (Err x) ok err h m =
    subst (λ (p : PartDocument). PartIsWithin greatest p) (sym err) h
