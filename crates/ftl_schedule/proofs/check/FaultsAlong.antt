-- The first fault along a list, place by place.
use Rattle.std.proofs.Common.{◌≡◌, ℕ, ◌+◌, ◌<◌, ◌≤◌, List, ◌∷◌, length, drop, get_or, arith, subst, Option, Some, None, add-one, sym, ◌∙◌, ap}
use Rattle.std.proofs.Math.Seq.{drop-cons}
use Rattle.std.proofs.lemmas.List.{drop_all}
use Rattle.std.specs.List.{enumerate_from, range_with_len}
use Rattle.std.proofs.lemmas.List.FromFn.{get_or-enumerate_from, get_or-range_with_len, length-enumerate_from, length-range_with_len}
use Rattle.std.specs.Option.{option_or}
use Rattle.ftl_model.specs.lists.FirstAlong.{first_along}
use Rattle.ftl_order.specs.declared.faults.fault.VerifyFault.{VerifyFault}

module _ {X : Type 0} (f : X → Option VerifyFault) (xs : List X) (i : ℕ) (d : X) (within : i < length xs) where
  left_at : first_along f (drop i xs) ≡ option_or (f (get_or xs i d)) (first_along f (drop (i + 1) xs))
  left_at = ap (first_along f) (drop-cons xs i d within ∙ ap (λ n. get_or xs i d ∷ drop n xs) (sym (add-one i)))

  -- there is a fault at this place
  pub along_here : (x : VerifyFault) → f (get_or xs i d) ≡ Some x → first_along f (drop i xs) ≡ Some x
  along_here x is = left_at ∙ ap (λ o. option_or o (first_along f (drop (i + 1) xs))) is

  -- there is none
  pub along_later : f (get_or xs i d) ≡ None → first_along f (drop i xs) ≡ first_along f (drop (i + 1) xs)
  along_later is = left_at ∙ ap (λ o. option_or o (first_along f (drop (i + 1) xs))) is

-- none is left
pub along_end : {X : Type 0} (f : X → Option VerifyFault) (xs : List X) (n : ℕ) → length xs ≤ n → first_along f (drop n xs) ≡ None
along_end f xs n past = ap (first_along f) (drop_all n xs past)

-- of the numbers below n
module _ (f : ℕ → Option VerifyFault) (n a : ℕ) where
  module _ (within : a < n) where
    here : f (get_or (range_with_len 0 n) a 0) ≡ f a
    here = let same : 0 + a ≡ a = omega arith in ap f (get_or-range_with_len 0 n a 0 within ∙ same)

    in_range : a < length (range_with_len 0 n)
    in_range = subst (λ m. a < m) (sym (length-range_with_len 0 n)) within

    pub number_here : (x : VerifyFault) → f a ≡ Some x → first_along f (drop a (range_with_len 0 n)) ≡ Some x
    number_here x is = along_here f (range_with_len 0 n) a 0 in_range x (here ∙ is)

    pub number_later : f a ≡ None
        → first_along f (drop a (range_with_len 0 n)) ≡ first_along f (drop (a + 1) (range_with_len 0 n))
    number_later is = along_later f (range_with_len 0 n) a 0 in_range (here ∙ is)

  pub numbers_end : n ≤ a → first_along f (drop a (range_with_len 0 n)) ≡ None
  numbers_end past = along_end f (range_with_len 0 n) a (subst (λ m. m ≤ a) (sym (length-range_with_len 0 n)) past)

-- of the entries of a list with their numbers
module _ {X : Type 0} (f : ℕ × X → Option VerifyFault) (xs : List X) (i : ℕ) where
  module _ (d : X) (within : i < length xs) where
    entry_here : f (get_or (enumerate_from 0 xs) i (0, d)) ≡ f (i, get_or xs i d)
    entry_here =
        let same : 0 + i ≡ i = omega arith in
        ap f (get_or-enumerate_from 0 xs i (0, d) within ∙ ap {B = ℕ × X} (λ m. (m, get_or xs i d)) same)

    in_entries : i < length (enumerate_from 0 xs)
    in_entries = subst (λ m. i < m) (sym (length-enumerate_from 0 xs)) within

    pub numbered_here : (x : VerifyFault) → f (i, get_or xs i d) ≡ Some x
        → first_along f (drop i (enumerate_from 0 xs)) ≡ Some x
    numbered_here x is = along_here f (enumerate_from 0 xs) i (0, d) in_entries x (entry_here ∙ is)

    pub numbered_later : f (i, get_or xs i d) ≡ None
        → first_along f (drop i (enumerate_from 0 xs)) ≡ first_along f (drop (i + 1) (enumerate_from 0 xs))
    numbered_later is = along_later f (enumerate_from 0 xs) i (0, d) in_entries (entry_here ∙ is)

  pub numbered_end : length xs ≤ i → first_along f (drop i (enumerate_from 0 xs)) ≡ None
  numbered_end past = along_end f (enumerate_from 0 xs) i (subst (λ m. m ≤ i) (sym (length-enumerate_from 0 xs)) past)

-- the steps of a loop over numbers
pub ruleset number_steps = (number_here, number_later, numbers_end)
