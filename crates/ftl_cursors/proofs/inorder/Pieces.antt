-- Pieces of a list for the children of a class, some of which are empty.
use Rattle.std.proofs.Common.{◌≡◌, ℕ, zero, suc, ◌+◌, ◌<◌, ◌≤◌, ◌==◌, Bool, true, false, if◌then◌else◌, List, [], ◌∷◌, ◌++◌, flat_map, refl, ◌∙◌, ap, ap₂, arith, eqb-true, Contains}
use Rattle.std.specs.List.{range_with_len}
use Rattle.ftl_model.proofs.lists.Elements.{here_in, later_in}
use Rattle.ftl_model.specs.layout.AttributeGrammar.{AttributeGrammar}
use Rattle.ftl_model.specs.layout.Tree.{Forest, count_in, none, tree}
use Rattle.ftl_model.specs.layout.TreeOf.{FitBelow, StartsFrom}

pub not_same : (d c : ℕ) → (d ≡ c → ⊥) → (d == c) ≡ false
not_same d c other =
    elim (d == c) as (λ b. (d == c) ≡ b → b ≡ false) [
      | true ↦ λ e. absurd (other (eqb-true d c e))
      | false ↦ λ e. refl
    ]
    refl

-- pieces that are the same
pub same_pieces : {X : Type 0} (f h : ℕ → List X) (ns : List ℕ) → ((n : ℕ) → Contains ns n → f n ≡ h n)
    → flat_map f ns ≡ flat_map h ns
same_pieces f h [] same = refl
same_pieces f h (n ∷ ns) same =
    ap₂ (λ xs ys. xs ++ ys) (same n (here_in n ns)) (same_pieces f h ns (λ m there. same m (later_in n m ns there)))

-- pieces that are empty
pub no_pieces : {X : Type 0} (f : ℕ → List X) (ns : List ℕ) → ((n : ℕ) → f n ≡ []) → flat_map f ns ≡ []
no_pieces f [] none_is = refl
no_pieces f (n ∷ ns) none_is = ap₂ (λ xs ys. xs ++ ys) (none_is n) (no_pieces f ns none_is)

-- empty pieces at the front are passed over
pub pass_over : {X : Type 0} (f : ℕ → List X) (from before count : ℕ)
    → ((n : ℕ) → from ≤ n → n < from + before → f n ≡ [])
    → flat_map f (range_with_len from (before + count)) ≡ flat_map f (range_with_len (from + before) count)
pass_over f from zero count none_is =
    ap₂ (λ n m. flat_map f (range_with_len n m)) (let z : from ≡ from + 0 = omega arith in z)
    (let z : 0 + count ≡ count = omega arith in z)
pass_over f from (suc before) count none_is =
    ap (λ m. flat_map f (range_with_len from m)) (let z : suc before + count ≡ suc (before + count) = omega arith in z)
    ∙ ap (λ xs. xs ++ flat_map f (range_with_len (from + 1) (before + count)))
    (none_is from (omega arith) (omega arith))
    ∙ pass_over f (from + 1) before count (λ n low high. none_is n (omega arith) (omega arith))
    ∙ ap (λ m. flat_map f (range_with_len m count)) (let z : (from + 1) + before ≡ from + suc before = omega arith in z)

pub from_zero : (f : Forest) → StartsFrom 0 f
from_zero none = tt
from_zero (tree k d i b s) = omega arith

module _ (g : AttributeGrammar) where
  -- no tree stands in a child before that of the first
  pub none_before : (above d c : ℕ) (f : Forest) → FitBelow g above f → StartsFrom d f → c < d → count_in c f ≡ 0
  none_before above d c none fits starts less = refl
  none_before above d c (tree k e i b s) fits starts less =
      let other : (e ≡ c → ⊥) = λ is. (let z : ⊥ = omega arith in z) in
      ap (λ (w : Bool). if w then suc (count_in c s) else count_in c s) (not_same e c other)
      ∙ none_before above e c s fits.4 fits.3 (omega arith)
