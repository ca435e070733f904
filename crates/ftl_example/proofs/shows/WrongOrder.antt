-- Where one step need not precede another, a legal order has it not before the other.
use Rattle.std.proofs.Common.{◌≡◌, ◌⊎◌, ℕ, zero, suc, ◌+◌, ◌<◌, ◌≤◌, Bool, true, false, refl, sym, ◌∙◌, ap, subst, inl, inr, ⊎_elim, arith, List, [], ◌∷◌, length, get_or, filter}
use Rattle.ftl_model.specs.lists.Lists.{AreDistinct, StandsBefore}
use Rattle.ftl_model.proofs.lists.Sorted.{sorted_at}
use Rattle.ftl_model.specs.layout.Tree.{Forest}
use Rattle.ftl_model.specs.layout.AttributeGrammar.{AttributeGrammar}
use Rattle.ftl_model.specs.layout.TreeOf.{IsTreeOf}
use Rattle.ftl_model.specs.layout.Table.{instances}
use Rattle.ftl_model.specs.layout.Solves.{Instance}
use Rattle.ftl_order.specs.orders.Lawful.{IsLawful}
use Rattle.ftl_order.specs.orders.LegalOrder.{IsLegalBy, IsStep}
use Rattle.ftl_order.proofs.orders.LegalOrders.{order_by_number, is_computed, order_by_number, order_by_number_legal}
use Rattle.ftl_order.proofs.orders.Precedence.{Decided}

abbrev is_so : {P : Type 0} → Decided P → Bool
is_so (inl h) = true
is_so (inr h) = false

so : {P : Type 0} (d : Decided P) → is_so d ≡ true → P
so (inl h) e = h
so (inr h) e = absurd (let z : ⊥ = grind arith in z)

not_so : {P : Type 0} (d : Decided P) → is_so d ≡ false → P → ⊥
not_so (inl h) e p = let z : ⊥ = grind arith in z
not_so (inr h) e p = h p

-- no entry of a list without repetition stands before itself
no_twice : (xs : List Instance) → AreDistinct xs → (i j : Instance) → StandsBefore xs i j → i ≡ j → ⊥
no_twice [] d i j h e = let b = h.3 in omega (arith, b)
no_twice (x ∷ xs) d i j h e = go (λ h. no_twice xs d.1 i j h e) h.0 h.1 h.2 h.3 h.4 h.5
  where
    go : (StandsBefore xs i j → ⊥) → (m n : ℕ) → m < n → n < length (x ∷ xs) → ((d : Instance) → get_or (x ∷ xs) m d ≡ i)
        → ((d : Instance) → get_or (x ∷ xs) n d ≡ j) → ⊥
    go next m zero l b em en = omega (arith, l)
    go next zero (suc n) l b em en =
        d.0 (n, let z : n < length xs = omega (arith, b) in z, en x ∙ sym e ∙ sym (em x))
    go next (suc m) (suc n) l b em en =
        next
        (m, n, (let z : m < n = omega (arith, l) in z), (let z : n < length xs = omega (arith, b) in z), em, en)

-- For any relation of steps that is transitive, decided, and rises with a number: nothing here knows passes, visits or
-- nests.
module _ (g : AttributeGrammar) (t : Forest) (law : IsLawful g) (fits : IsTreeOf g t)
    (First : Instance → Instance → Type 0) (chain : (i j k : Instance) → First i j → First j k → First i k)
    (decided : (i j : Instance) → Decided (First i j)) (same : (i j : Instance) → Decided (i ≡ j))
    (rank : Instance → ℕ) (rises : (i j : Instance) → IsStep g t i → First i j → rank i < rank j) (r : Instance) where
  abbrev Early : Instance → Type 0
  Early i = (i ≡ r) ⊎ First i r

  early : (i : Instance) → Decided (Early i)
  early i = go (same i r) (decided i r)
    where
      go : Decided (i ≡ r) → Decided (First i r) → Decided ((i ≡ r) ⊎ First i r)
      go (inl e) d = inl (inl e)
      go (inr differ) (inl h) = inl (inr h)
      go (inr differ) (inr never) = inr (λ h. ⊎_elim differ never h)

  -- r and what must come before it, by rank; then the others, by rank
  abbrev late : Bool → Instance → ℕ
  late true i = rank i
  late false i = rank i + suc (rank r)

  abbrev number : Instance → ℕ
  number i = late (is_so (early i)) i

  early_rank : (i : Instance) → IsStep g t i → Early i → rank i ≤ rank r
  early_rank i step h =
      ⊎_elim (λ e. let f : rank i ≡ rank r = ap rank e in omega (arith, f))
      (λ first. let l = rises i r step first in omega (arith, l)) h

  early_first : (i j : Instance) → First i j → Early j → Early i
  early_first i j first h =
      inr (⊎_elim (λ e. subst (First i) e first) (λ next. chain i j r first next) h)

  number_rises : (i j : Instance) → IsStep g t i → First i j → number i < number j
  number_rises i j step first = by (is_so (early i)) (is_so (early j)) refl refl
    where
      by : (a b : Bool) → is_so (early i) ≡ a → is_so (early j) ≡ b → late a i < late b j
      by true true ea eb = rises i j step first
      by true false ea eb = let l = early_rank i step (so (early i) ea) in omega (arith, l)
      by false true ea eb = absurd (not_so (early i) ea (early_first i j first (so (early j) eb)))
      by false false ea eb = let l = rises i j step first in omega (arith, l)

  reader_early : (a : Bool) → is_so (early r) ≡ a → late a r ≡ rank r
  reader_early true e = refl
  reader_early false e = absurd (not_so (early r) e (inl refl))

  abbrev free_order : List Instance
  free_order = order_by_number g t law fits First number number_rises

  free_order_legal : IsLegalBy g t First free_order
  free_order_legal = order_by_number_legal g t law fits First number number_rises

  -- w is not before r in it, unless it must come before r
  free_order_free : (w : Instance) → (First w r → ⊥) → StandsBefore free_order w r → ⊥
  free_order_free w free h = go (is_so (early w)) refl
    where
      go : (a : Bool) → is_so (early w) ≡ a → ⊥
      go true e = ⊎_elim (λ twice. no_twice free_order free_order_legal.once w r h twice) free (so (early w) e)
      go false e =
          let m = h.0 in
          let n = h.1 in
          let up = sorted_at number (filter (λ i. is_computed (g.sort i.attribute)) (instances g t)) m n r h.2 h.3 in
          let ew : number (get_or free_order m r) ≡ number w = ap number (h.4 r) in
          let er : number (get_or free_order n r) ≡ number r = ap number (h.5 r) in
          let lw : number w ≡ rank w + suc (rank r) = ap (λ b. late b w) e in
          let lr = reader_early (is_so (early r)) refl in
          omega (arith, up, ew, er, lw, lr)

  pub wrong_order : (w : Instance) → (First w r → ⊥)
      → (order : List Instance) × IsLegalBy g t First order × (StandsBefore order w r → ⊥)
  wrong_order w free = (free_order, free_order_legal, free_order_free w free)
