-- Each node of a tree of a grammar fits its class and its place.
use Rattle.std.proofs.Common.{◌≡◌, ℕ, zero, suc, Bool, true, false, cond, eqb, refl, subst}
use Rattle.ftl_model.specs.layout.Tree.{Forest, none, tree, IsTree, class_of, child_of, inputs_of, below_of, from_kid}
use Rattle.ftl_model.specs.layout.TreeOf.{IsTreeOf, FitBelow, FitsClass, FitsChild}
use Rattle.ftl_model.specs.layout.Path.{Path, top, down, at, Has, class_at, inputs_at}
use Rattle.ftl_model.specs.layout.AttributeGrammar.{AttributeGrammar}
use Rattle.ftl_model.proofs.layout.Kids.{child-from_kid}
use Rattle.ftl_model.proofs.layout.Standing.{has_parent}

module _ (g : AttributeGrammar) where
  -- the trees from a kid on fit where the trees do
  pub fit_from : (above : ℕ) (f : Forest) (c k : ℕ) → FitBelow g above f → FitBelow g above (from_kid c k f)
  fit_from above none c k h = tt
  fit_from above (tree cl d i b s) c zero h = go (eqb d c) refl (fit_from above s c zero h.4)
    where
      go : (same : Bool) → eqb d c ≡ same → FitBelow g above (from_kid c 0 s) → FitBelow g above (cond same (tree cl d i b s) (from_kid c 0 s))
      go true e later = h
      go false e later = later
  fit_from above (tree cl d i b s) c (suc k) h = go (eqb d c) (fit_from above s c k h.4) (fit_from above s c (suc k) h.4)
    where
      go : (same : Bool) → FitBelow g above (from_kid c k s) → FitBelow g above (from_kid c (suc k) s) → FitBelow g above (cond same (from_kid c k s) (from_kid c (suc k) s))
      go true next later = next
      go false next later = later

  -- a node fits its class, and what stands below it fits there
  pub record FitsAt (t : Forest) (p : Path) : Type 0 where
    pub class : FitsClass g (class_at t p) (inputs_at t p) (below_of (at t p))
    pub below : FitBelow g (class_at t p) (below_of (at t p))

  first_fits : (above : ℕ) (f : Forest) → IsTree f → FitBelow g above f → FitsClass g (class_of f) (inputs_of f) (below_of f) × FitBelow g (class_of f) (below_of f)
  first_fits above none is h = elim is [ ]
  first_fits above (tree k d i b s) is h = (h.1, h.2)

  first_stands : (above : ℕ) (f : Forest) → IsTree f → FitBelow g above f → FitsChild g above (child_of f) (class_of f)
  first_stands above none is h = elim is [ ]
  first_stands above (tree k d i b s) is h = h.0

  root_fits : (t : Forest) → IsTreeOf g t → FitsAt t top
  root_fits none h = elim h [ ]
  root_fits (tree k d i b s) h = record { class = h.1; below = h.2 }

  pub fits_at : (t : Forest) (p : Path) → IsTreeOf g t → Has t p → FitsAt t p
  fits_at t top h has = root_fits t h
  fits_at t (down c k p) h has =
      let up = fits_at t p h (has_parent t c k p has) in
      let fits = first_fits (class_at t p) (from_kid c k (below_of (at t p))) has (fit_from (class_at t p) (below_of (at t p)) c k up.below) in
      record { class = fits.0; below = fits.1 }

  -- a kid stands in a declared child, with a class of its interface
  pub kid_stands : (t : Forest) (c k : ℕ) (p : Path) → IsTreeOf g t → Has t (down c k p) → FitsChild g (class_at t p) c (class_at t (down c k p))
  kid_stands t c k p h has =
      let up = fits_at t p h (has_parent t c k p has) in
      let f = from_kid c k (below_of (at t p)) in
      subst (λ (d : ℕ). FitsChild g (class_at t p) d (class_of f)) (child-from_kid c k (below_of (at t p)) has)
      (first_stands (class_at t p) f has (fit_from (class_at t p) (below_of (at t p)) c k up.below))
