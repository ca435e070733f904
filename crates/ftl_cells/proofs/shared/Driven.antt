-- A hand that is driven through an item makes reads and fills alone.
use Rattle.std.proofs.Common.{◌≡◌, ℕ, inl, inr, ⊎_elim, subst, refl, sym, ap, ◌∙◌}
use Rattle.ftl_model.specs.layout.Values.{Value}
use Rattle.ftl_cells.specs.shared.Work.{Meaning}
use Rattle.ftl_cells.specs.shared.State.{Place, live, spent, HandState}
use Rattle.ftl_cells.specs.shared.Calls.{CanRead, CanFill, ReadSteps, FillSteps}
use Rattle.ftl_cells.specs.shared.Interleavings.{IsNextState}
use Rattle.ftl_cells.specs.shared.Filling.{ReadsOrFills, Fills, stays, goes_on}
use Rattle.ftl_cells.specs.declared.shared.place.HandPlace.TheVariants.{Idle, Looked, Working, Filled, Sending, Ended}

read_is_one : (m : Meaning) (v : HandState) (p : Place) (n : ℕ) (w : HandState) → CanRead m p → ReadSteps v p n w
    → ReadsOrFills v p w
read_is_one m v (live Idle) n w c e = absurd c
read_is_one m v (live (Looked item)) n w c e = absurd c
read_is_one m v (live (Working item step reads)) n w c e = inl (n, e)
read_is_one m v (live (Filled item)) n w c e = absurd c
read_is_one m v (live (Sending item sent)) n w c e = absurd c
read_is_one m v (live Ended) n w c e = absurd c
read_is_one m v spent n w c e = absurd c

fill_is_one : (m : Meaning) (v : HandState) (p : Place) (x : Value) (w : HandState) → CanFill m p x → FillSteps v p w
    → ReadsOrFills v p w
fill_is_one m v (live Idle) x w c e = absurd c
fill_is_one m v (live (Looked item)) x w c e = absurd c
fill_is_one m v (live (Working item step reads)) x w c e = inr e
fill_is_one m v (live (Filled item)) x w c e = absurd c
fill_is_one m v (live (Sending item sent)) x w c e = absurd c
fill_is_one m v (live Ended) x w c e = absurd c
fill_is_one m v spent x w c e = absurd c

pub reads_one : (m : Meaning) (v w : HandState) (n : ℕ) → CanRead m v.place → IsNextState v w → ReadSteps v v.place n w
    → Fills v w
reads_one m v w n can one step = goes_on stays one (read_is_one m v v.place n w can step)

pub fills_one : (m : Meaning) (v w : HandState) (x : Value) → CanFill m v.place x → IsNextState v w
    → FillSteps v v.place w → Fills v w
fills_one m v w x can one step = goes_on stays one (fill_is_one m v v.place x w can step)

one_releases_none : (v : HandState) (p : Place) (w : HandState) → ReadsOrFills v p w → w.released ≡ v.released
one_releases_none v (live Idle) w o = absurd o
one_releases_none v (live (Looked item)) w o = absurd o
one_releases_none v (live (Working item step reads)) w o = ⊎_elim (λ a. ap (λ h. h.released) a.1)
    (λ e. ap (λ h. h.released) e) o
one_releases_none v (live (Filled item)) w o = absurd o
one_releases_none v (live (Sending item sent)) w o = absurd o
one_releases_none v (live Ended) w o = absurd o
one_releases_none v spent w o = absurd o

-- reads and fills release no item
pub fills_release_none : {v w : HandState} → Fills v w → w.released ≡ v.released
fills_release_none stays = refl
fills_release_none (goes_on {w} {x} a s o) = one_releases_none w w.place x o ∙ fills_release_none a

-- a filler that stands there may fill as a hand may
pub can_fill_there : (m of : Meaning) (p at : Place) (v : Value) → of ≡ m → at ≡ p → CanFill m p v → CanFill of at v
can_fill_there m of p at v e f can = subst (λ x. CanFill x at v) (sym e) (subst (λ x. CanFill m x v) (sym f) can)
