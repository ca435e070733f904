-- Places on a vector beside the hands that have them.
use Rattle.std.proofs.Common.{◌≡◌, ◌≢◌, ℕ, zero, suc, ◌<◌, subst, refl, sym, ap, ◌∙◌, arith, List, [], ◌∷◌, ◌++◌, length, get_or, set, length-append}
use Rattle.std.proofs.lemmas.List.{get_or-set_same, get_or-set_other, length-set}
use mathlib.Core.Logic.{dite}
use mathlib.Core.Option.{some}
use native.Mathlib.Decide.{ℕ_discrete}
use lib.ListN.{get_elem?}
use Rattle.ftl_cells.specs.shared.State.{spent, HandState, given_up}
use Rattle.ftl_cells.specs.shared.Kept.{hand_at}
use Rattle.ftl_cells.proofs.shared.KeptSteps.{snoc_here, snoc_other}
use Rattle.ftl_replay.specs.declared.interleavings.place.ReplayPlace.{ReplayPlace}
use Rattle.ftl_replay.specs.declared.interleavings.place.ReplayPlace.TheVariants.{Spent}
use Rattle.ftl_replay.specs.interleavings.Events.{place_of, place_at}
use Rattle.ftl_replay.specs.interleavings.Replays.{ArePlacesOf}

-- a hand below the length is there
pub there : {A : Type 0} → (l : List A) (i : ℕ) (d : A) → i < length l → get_elem? l i ≡ some (get_or l i d)
there [] i d b = absurd (omega arith)
there (x ∷ xs) zero d b = refl
there (x ∷ xs) (suc i) d b = there xs i d (omega arith)

-- a hand that was not given up is below the length
pub below : (hands : List HandState) (h : ℕ) → (hand_at hands h).place ≢ spent → h < length hands
below [] h ne = absurd (ne refl)
below (v ∷ vs) zero ne = omega arith
below (v ∷ vs) (suc h) ne = let b = below vs h ne in omega arith

module _ (hands : List HandState) (places : List ReplayPlace) (at : ArePlacesOf hands places) where
  -- one hand changes, and its place with it
  pub put : (h : ℕ) (w : HandState) (q : ReplayPlace) → h < length hands → place_of q ≡ w.place
      → ArePlacesOf (set hands h w) (set places h q)
  put h w q b e = record {
    count = length-set places h q ∙ at.count ∙ sym (length-set hands h w);
    each = λ g. dite (ℕ_discrete g h)
        (λ is. subst (λ y. place_of (get_or (set places h q) y Spent) ≡ (hand_at (set hands h w) y).place) (sym is)
        (ap place_of (get_or-set_same places h q Spent (omega (arith, at.count))) ∙ e
        ∙ sym (ap (λ y. y.place) (get_or-set_same hands h w given_up b))))
        (λ ne. ap place_of (get_or-set_other places h g q Spent ne) ∙ at.each g
        ∙ sym (ap (λ y. y.place) (get_or-set_other hands h g w given_up ne)));
  }

  -- one hand changes, and not its place
  pub stay : (h : ℕ) (w : HandState) → h < length hands → (hand_at hands h).place ≡ w.place
      → ArePlacesOf (set hands h w) places
  stay h w b e = record {
    count = at.count ∙ sym (length-set hands h w);
    each = λ g. dite (ℕ_discrete g h)
        (λ is. subst (λ y. place_at places y ≡ (hand_at (set hands h w) y).place) (sym is)
        (at.each h ∙ e ∙ sym (ap (λ y. y.place) (get_or-set_same hands h w given_up b))))
        (λ ne. at.each g ∙ sym (ap (λ y. y.place) (get_or-set_other hands h g w given_up ne)));
  }

  -- one more hand
  pub more : (w : HandState) (q : ReplayPlace) → place_of q ≡ w.place
      → ArePlacesOf (hands ++ w ∷ []) (places ++ q ∷ [])
  more w q e = record {
    count = omega (arith, length-append places (q ∷ []), length-append hands (w ∷ []), at.count);
    each = λ g. dite (ℕ_discrete g (length hands))
        (λ is. subst (λ y. place_of (get_or (places ++ q ∷ []) y Spent) ≡ (hand_at (hands ++ w ∷ []) y).place)
        (sym is)
        (subst (λ y. place_of (get_or (places ++ q ∷ []) y Spent) ≡ w.place) at.count
        (ap place_of (snoc_here places q Spent) ∙ e)
        ∙ sym (ap (λ y. y.place) (snoc_here hands w given_up))))
        (λ ne. ap place_of (snoc_other places q Spent g (λ z. ne (z ∙ at.count))) ∙ at.each g
        ∙ sym (ap (λ y. y.place) (snoc_other hands w given_up g ne)));
  }
