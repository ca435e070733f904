-- Rows that are filled number by number, and how many numbers a row lacks.
use Rattle.std.proofs.Common.{◌≡◌, ◌⊎◌, ℕ, zero, suc, ◌+◌, ◌<◌, ◌≤◌, ◌||◌, ◌&&◌, Bool, true, false, if◌then◌else◌}
use Rattle.std.proofs.Common.{refl, sym, ◌∙◌, ap, ap₂, subst, ⊎_elim, arith, ne_eqb}
use Rattle.std.proofs.Common.{List, [], ◌∷◌, length, get_or, Contains}
use Rattle.std.specs.FinSet as set
use Rattle.ftl_model.proofs.lists.Elements.{here_in, later_in}
use Rattle.std.proofs.lemmas.Bool.{cases_eq, cases_lt, false_from_ne_true, true≢false}
use Rattle.lane_rows.proofs.Bits.{contains-insert_nat}
use Rattle.ftl_scheduler.specs.largest_sets.Rows.{Has, Row}
use Rattle.ftl_scheduler.proofs.largest_sets.Leaving.{minus_none}
use Rattle.ftl_scheduler.proofs.largest_sets.Turns.{put_cases, put_here, put_more}

pub put_other : (row : Row) (a b : ℕ) → (b ≡ a → ⊥) → set.contains (set.insert row a) b ≡ set.contains row b
put_other row a b other = contains-insert_nat row a b ∙ ap (λ t. t || set.contains row b) (ne_eqb b a other)

-- the row has the numbers below a bound that pass a test, and no others
pub record IsMarked (test : ℕ → Bool) (row : Row) (bound : ℕ) : Type 0 where
  pub below : (b : ℕ) → b < bound → set.contains row b ≡ test b
  pub above : (b : ℕ) → bound ≤ b → set.contains row b ≡ false

module _ (test : ℕ → Bool) where
  pub marked_none : (row : Row) → row ≡ set.empty → IsMarked test row 0
  marked_none row e =
      record {
        below = λ b h. absurd (let z : ⊥ = omega (arith, h) in z);
        above = λ b h. ap (λ r. set.contains r b) e ∙ set.contains-empty _ b;
      }

  pub marked_put : (row new : Row) (n m : ℕ) → IsMarked test row n → test n ≡ true → new ≡ set.insert row n → m ≡ n + 1
      → IsMarked test new m
  marked_put row new n m k passes e next =
      record {
        below = λ b h.
            ap (λ r. set.contains r b) e
            ∙ ⊎_elim (λ less. put_other row n b (λ same. let z : ⊥ = omega (arith, less, same) in z) ∙ k.below b less)
            (λ more.
            let same : b ≡ n = omega (arith, h, more, next) in
            subst (λ c. set.contains (set.insert row n) c ≡ test c) (sym same) (put_here row n ∙ sym passes))
            (cases_lt b n);
        above = λ b h.
            ap (λ r. set.contains r b) e
            ∙ put_other row n b (λ same. let z : ⊥ = omega (arith, h, same, next) in z)
            ∙ k.above b (omega (arith, h, next));
      }

  pub marked_skip : (row : Row) (n m : ℕ) → IsMarked test row n → test n ≡ false → m ≡ n + 1 → IsMarked test row m
  marked_skip row n m k fails next =
      record {
        below = λ b h.
            ⊎_elim (λ less. k.below b less)
            (λ more.
            let same : b ≡ n = omega (arith, h, more, next) in
            subst (λ c. set.contains row c ≡ test c) (sym same) (k.above n (omega arith) ∙ sym fails)) (cases_lt b n);
        above = λ b h. k.above b (omega (arith, h, next));
      }

  pub marked_all : (row : Row) (size : ℕ) → IsMarked test row size → ((b : ℕ) → test b ≡ true → b < size) → (b : ℕ)
      → set.contains row b ≡ test b
  marked_all row size k within b =
      ⊎_elim (λ less. k.below b less)
      (λ more.
      k.above b more
      ∙ sym (false_from_ne_true (test b) (λ t. let less = within b t in let z : ⊥ = omega (arith, less, more) in z)))
      (cases_lt b size)

  -- those of a list that were seen and pass a test were added
  pub record IsAdding (list start row seen : Row) : Type 0 where
    pub added : (b : ℕ) → set.contains row b ≡ (set.contains start b || (set.contains seen b && test b))
    pub of_list : (b : ℕ) → Has seen b → Has list b

  pub adding_start : (list start seen : Row) → seen ≡ set.empty → IsAdding list start start seen
  adding_start list start seen e =
      record {
        added = λ b.
            sym (ap (λ t. set.contains start b || (t && test b)) (ap (λ r. set.contains r b) e ∙ set.contains-empty _ b)
            ∙ or_nothing (set.contains start b));
        of_list = λ b h. absurd (true≢false (sym h ∙ ap (λ r. set.contains r b) e ∙ set.contains-empty _ b));
      }
    where
      or_nothing : (t : Bool) → (t || false) ≡ t
      or_nothing true = refl
      or_nothing false = refl

  or_true : (t : Bool) → (t || true) ≡ true
  or_true true = refl
  or_true false = refl

  seen_more : (list seen new : Row) (a : ℕ) → ((b : ℕ) → Has seen b → Has list b) → Has list a
      → new ≡ set.insert seen a → (b : ℕ) → Has new b → Has list b
  seen_more list seen new a of_list there e b h =
      ⊎_elim (λ same. subst (Has list) (sym same) there) (λ old. of_list b old)
      (put_cases seen a b (ap (λ r. set.contains r b) (sym e) ∙ h))

  pub adding_put : (list start row seen new_row new_seen : Row) (a : ℕ) → IsAdding list start row seen → Has list a
      → test a ≡ true → new_seen ≡ set.insert seen a → new_row ≡ set.insert row a
      → IsAdding list start new_row new_seen
  adding_put list start row seen new_row new_seen a k there passes e f =
      record {
        added = λ b.
            ap (λ r. set.contains r b) f
            ∙ ⊎_elim
            (λ same.
            subst (λ c. set.contains (set.insert row a) c
            ≡ (set.contains start c || (set.contains new_seen c && test c))) (sym same)
            (put_here row a
            ∙ sym (ap (λ t. set.contains start a || t)
            (ap₂ (λ t u. t && u) (ap (λ r. set.contains r a) e ∙ put_here seen a) passes)
            ∙ or_true (set.contains start a))))
            (λ other.
            put_other row a b other ∙ k.added b
            ∙ sym (ap (λ t. set.contains start b || (t && test b)) (ap (λ r. set.contains r b) e ∙ put_other seen a b other)))
            (same_or_not a b);
        of_list = seen_more list seen new_seen a k.of_list there e;
      }
    where
      same_or_not : (a b : ℕ) → (b ≡ a) ⊎ (b ≡ a → ⊥)
      same_or_not a b = cases_eq b a

  pub adding_skip : (list start row seen new_seen : Row) (a : ℕ) → IsAdding list start row seen → Has list a
      → test a ≡ false → new_seen ≡ set.insert seen a → set.contains seen a ≡ false → IsAdding list start row new_seen
  adding_skip list start row seen new_seen a k there fails e new =
      record {
        added = λ b.
            ⊎_elim
            (λ same.
            k.added b
            ∙ ap (λ t. set.contains start b || t)
            (subst (λ c. (set.contains seen c && test c) ≡ (set.contains new_seen c && test c)) (sym same)
            (and_no (set.contains seen a) (test a) fails ∙ sym (and_no (set.contains new_seen a) (test a) fails))))
            (λ other.
            k.added b
            ∙ sym (ap (λ t. set.contains start b || (t && test b)) (ap (λ r. set.contains r b) e ∙ put_other seen a b other)))
            (cases_eq b a);
        of_list = seen_more list seen new_seen a k.of_list there e;
      }
    where
      and_no : (t u : Bool) → u ≡ false → (t && u) ≡ false
      and_no true u h = h
      and_no false u h = refl

  pub adding_end : (list start row seen : Row) → IsAdding list start row seen → set.difference list seen ≡ set.empty
      → (b : ℕ) → set.contains row b ≡ (set.contains start b || (set.contains list b && test b))
  adding_end list start row seen k none b =
      k.added b ∙ ap (λ t. set.contains start b || (t && test b)) (same (set.contains seen b) refl)
    where
      same : (t : Bool) → set.contains seen b ≡ t → set.contains seen b ≡ set.contains list b
      same true e = e ∙ sym (k.of_list b e)
      same false e =
          e ∙ sym (false_from_ne_true (set.contains list b) (λ h. true≢false (sym (minus_none list seen none b h) ∙ e)))

-- ---- how many numbers a row lacks

abbrev lacks : Bool → ℕ
lacks b = if b then 0 else 1

abbrev missing : ℕ → Row → ℕ
missing zero row = 0
missing (suc n) row = lacks (set.contains row n) + missing n row

lacks_less : (t u : Bool) → (t ≡ true → u ≡ true) → lacks u ≤ lacks t
lacks_less true true h = omega arith
lacks_less true false h = absurd (true≢false (sym (h refl)))
lacks_less false true h = omega arith
lacks_less false false h = omega arith

missing_fewer : (n : ℕ) (row : Row) (a : ℕ) → missing n (set.insert row a) ≤ missing n row
missing_fewer zero row a = omega arith
missing_fewer (suc n) row a =
    let first = lacks_less (set.contains row n) (set.contains (set.insert row a) n) (put_more row a n) in
    let rest = missing_fewer n row a in
    omega (arith, first, rest)

missing_less : (n : ℕ) (row : Row) (a : ℕ) → a < n → set.contains row a ≡ false
    → missing n (set.insert row a) < missing n row
missing_less zero row a h new = absurd (let z : ⊥ = omega (arith, h) in z)
missing_less (suc n) row a h new =
    ⊎_elim
    (λ less.
    let first = lacks_less (set.contains row n) (set.contains (set.insert row a) n) (put_more row a n) in
    let rest = missing_less n row a less new in
    omega (arith, first, rest))
    (λ more.
    let same : n ≡ a = omega (arith, h, more) in
    let gone : lacks (set.contains (set.insert row a) n) ≡ 0 =
    ap lacks (subst (λ m. Has (set.insert row a) m) (sym same) (put_here row a)) in
    let one : lacks (set.contains row n) ≡ 1 = ap lacks (subst (λ m. set.contains row m ≡ false) (sym same) new) in
    let rest = missing_fewer n row a in
    omega (arith, gone, one, rest))
    (cases_lt a n)

-- how many of the numbers that a row can have it lacks
unfoldable pub lacking : Row → ℕ
lacking row = missing 2048 row

-- fewer, where one is put
pub missing_after : (row new : Row) (a : ℕ) → a < 2048 → set.contains row a ≡ false → new ≡ set.insert row a
    → lacking new < lacking row
unfolding lacking
missing_after row new a h out e =
    subst (λ r. missing 2048 r < missing 2048 row) (sym e) (missing_less 2048 row a h out)

-- what stands at a place is in the list
pub at_in : (xs : List ℕ) (n : ℕ) → n < length xs → Contains xs (get_or xs n 0)
at_in [] n h = absurd (let z : ⊥ = omega (arith, h) in z)
at_in (x ∷ xs) zero h = here_in x xs
at_in (x ∷ xs) (suc n) h = later_in x (get_or xs n 0) xs (at_in xs n (omega (arith, h)))

missing_most : (n : ℕ) (small big : Row) → ((b : ℕ) → Has small b → Has big b) → missing n big ≤ missing n small
missing_most zero small big more = omega arith
missing_most (suc n) small big more =
    let first = lacks_less (set.contains small n) (set.contains big n) (more n) in
    let rest = missing_most n small big more in
    omega (arith, first, rest)

missing_covers : (n : ℕ) (small big : Row) (a : ℕ) → a < n → set.contains small a ≡ false → Has big a
    → ((b : ℕ) → Has small b → Has big b) → missing n big < missing n small
missing_covers zero small big a h out there more = absurd (let z : ⊥ = omega (arith, h) in z)
missing_covers (suc n) small big a h out there more =
    ⊎_elim
    (λ less.
    let first = lacks_less (set.contains small n) (set.contains big n) (more n) in
    let rest = missing_covers n small big a less out there more in
    omega (arith, first, rest))
    (λ same_or_more.
    let same : n ≡ a = omega (arith, h, same_or_more) in
    let gone : lacks (set.contains big n) ≡ 0 = ap lacks (subst (λ m. Has big m) (sym same) there) in
    let one : lacks (set.contains small n) ≡ 1 = ap lacks (subst (λ m. set.contains small m ≡ false) (sym same) out) in
    let rest = missing_most n small big more in
    omega (arith, gone, one, rest))
    (cases_lt a n)

-- a row with all of another and one more lacks fewer
pub lacking_covers : (small big : Row) (a : ℕ) → a < 2048 → set.contains small a ≡ false → Has big a
    → ((b : ℕ) → Has small b → Has big b) → lacking big < lacking small
unfolding lacking
lacking_covers small big a h out there more = missing_covers 2048 small big a h out there more
