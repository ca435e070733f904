-- Each computed attribute has exactly one entry where none has two and none is missing.
use Rattle.std.proofs.Common.{◌≡◌, ◌≢◌, ℕ, ◌+◌, ◌<◌, ◌≤◌, ◌==◌, ◌&&◌, Bool, true, false, not, if◌then◌else◌, List, []}
use Rattle.std.proofs.Common.{◌∷◌, Option, Some, None, refl, sym, ap, ◌∙◌, arith, eqb-true, eq-eqb}
use Rattle.std.proofs.Common.{zero, suc, cond}
use Rattle.std.proofs.lemmas.Bool.{false≢true}
use Rattle.std.proofs.lemmas.List.Sums.{sum_by-cons}
use Rattle.std.specs.List.{count_by, range_with_len}
use Rattle.ftl_model.proofs.lists.FirstAlong.{along_none, none_along}
use Rattle.ftl_model.specs.lists.Lists.{is_listed}
use Rattle.ftl_model.proofs.lists.Elements.{in_range_from, range_has}
use Rattle.ftl_model.proofs.lists.Listed.{counted_in, listed}
use Rattle.ftl_model.specs.layout.AttributeGrammar.{AttributeGrammar, Sort, is_input, input, inherited, synthesized, local}
use Rattle.ftl_order.specs.orders.Schedule.{EachStandsOnce, Schedule, entries}
use Rattle.ftl_order.specs.faults.FirstFault.{first_missing, first_twice, missing_fault}
use Rattle.ftl_order.specs.faults.FaultLaws.{AreComputed}
use Rattle.ftl_order.specs.declared.faults.fault.VerifyFault.{VerifyFault}
use Rattle.ftl_order.specs.declared.faults.fault.VerifyFault.TheVariants.{Twice, Missing}

-- how often a number stands in a list
abbrev count : List ℕ → ℕ → ℕ
count xs a = count_by (λ b. b == a) xs

-- ---- one entry more

count_step : (x a : ℕ) (xs : List ℕ) (b : Bool) → (x == a) ≡ b → count (x ∷ xs) a ≡ cond b 1 0 + count xs a
count_step x a xs b e =
    sum_by-cons (λ y. cond (y == a) 1 0) x xs ∙ ap (λ c. cond c 1 0 + count xs a) e

listed_step : (x a : ℕ) (xs : List ℕ) (b : Bool) → (a == x) ≡ b
    → is_listed (x ∷ xs) a ≡ (if b then true else is_listed xs a)
listed_step x a xs b e = ap (λ c. if c then true else is_listed xs a) e

-- two numbers are the same, or neither test finds them so
pub data Same (x a : ℕ) : Type 0 where
  same : x ≡ a → Same x a
  differ : (x == a) ≡ false → (a == x) ≡ false → Same x a

compare : (x a : ℕ) → Same x a
compare x a = by (x == a) (a == x) refl refl
  where
    by : (b c : Bool) → (x == a) ≡ b → (a == x) ≡ c → Same x a
    by true c e f = same (eqb-true x a e)
    by false true e f = same (sym (eqb-true a x f))
    by false false e f = differ e f

-- ---- no attribute has two entries

-- where none has, an entry stands once, and not before
record AtMostOnce (before xs : List ℕ) (a : ℕ) : Type 0 where
  apart : is_listed before a ≡ true → count xs a ≡ 0
  once : count xs a ≤ 1

at_most_once : (before xs : List ℕ) → first_twice before xs ≡ None → (a : ℕ) → AtMostOnce before xs a
at_most_once before [] e a = record { apart = λ l. refl; once = omega arith }
at_most_once before (x ∷ xs) e a = by (λ f. at_most_once (x ∷ before) xs f a) (is_listed before x) refl e
  where
    step : is_listed before x ≡ false → Same x a → AtMostOnce (x ∷ before) xs a → AtMostOnce before (x ∷ xs) a
    step is (same q) rest =
        let here = eq-eqb x a q in
        let back = listed_step x a before true (eq-eqb a x (sym q)) in
        let none = rest.apart back in
        let once = count_step x a xs true here in
        record {
          apart = λ l. absurd (false≢true (sym is ∙ ap (is_listed before) q ∙ l));
          once = omega (arith, none, once);
        }
    step is (differ p q) rest =
        let here = count_step x a xs false p in
        record {
          apart = λ l.
              let none = rest.apart (listed_step x a before false q ∙ l) in
              omega (arith, here, none);
          once = omega (arith, here, rest.once);
        }

    by : (first_twice (x ∷ before) xs ≡ None → AtMostOnce (x ∷ before) xs a) → (b : Bool) → is_listed before x ≡ b
        → (if b then Some (Twice x) else first_twice (x ∷ before) xs) ≡ None → AtMostOnce before (x ∷ xs) a
    by again true is f = cc
    by again false is f = step is (compare x a) (again f)

-- and the other way round
none_twice : (before xs : List ℕ) → ((a : ℕ) → is_listed before a ≡ true → count xs a ≡ 0)
    → ((a : ℕ) → count xs a ≤ 1) → first_twice before xs ≡ None
none_twice before [] apart once = refl
none_twice before (x ∷ xs) apart once =
    by (is_listed before x) refl (none_twice (x ∷ before) xs later_apart later_once)
  where
    own : count (x ∷ xs) x ≡ 1 + count xs x
    own = count_step x x xs true (eq-eqb x x refl)

    apart_by : (a : ℕ) → is_listed (x ∷ before) a ≡ true → Same x a → count xs a ≡ 0
    apart_by a l (same q) = ap (count xs) (sym q) ∙ (let few = once x in omega (arith, own, few))
    apart_by a l (differ p q) =
        let none = apart a (sym (listed_step x a before false q) ∙ l) in
        omega (arith, count_step x a xs false p, none)

    later_apart : (a : ℕ) → is_listed (x ∷ before) a ≡ true → count xs a ≡ 0
    later_apart a l = apart_by a l (compare x a)

    once_by : (a : ℕ) → Same x a → count xs a ≤ 1
    once_by a (same q) = let few = once a in omega (arith, count_step x a xs true (eq-eqb x a q), few)
    once_by a (differ p q) = let few = once a in omega (arith, count_step x a xs false p, few)

    later_once : (a : ℕ) → count xs a ≤ 1
    later_once a = once_by a (compare x a)

    by : (b : Bool) → is_listed before x ≡ b → first_twice (x ∷ before) xs ≡ None
        → (if b then Some (Twice x) else first_twice (x ∷ before) xs) ≡ None
    by true is e = absurd (let none = apart x is in omega (arith, own, none))
    by false is e = e

-- what is there is counted
counted : (xs : List ℕ) (a : ℕ) → is_listed xs a ≡ true → 0 < count xs a
counted [] a l = cc
counted (x ∷ xs) a l = step (counted xs a) (compare x a)
  where
    step : (is_listed xs a ≡ true → 0 < count xs a) → Same x a → 0 < count (x ∷ xs) a
    step again (same q) = omega (arith, count_step x a xs true (eq-eqb x a q))
    step again (differ p q) =
        let rest = again (sym (listed_step x a xs false q) ∙ l) in
        omega (arith, count_step x a xs false p, rest)

-- ---- each computed attribute has one

not_input : (sort : Sort) → sort ≢ input → is_input sort ≡ false
not_input input other = absurd (other refl)
not_input inherited other = refl
not_input synthesized other = refl
not_input local other = refl

computed : (sort : Sort) → is_input sort ≡ false → sort ≢ input
computed input e = cc
computed inherited e = λ f. cc
computed synthesized e = λ f. cc
computed local e = λ f. cc

-- by both tests
missing_by : (a : ℕ) (given has : Bool) → Option VerifyFault
missing_by a given has = if not given && not has then Some (Missing a) else None

is_there_by : (a : ℕ) (given has : Bool) → given ≡ false → missing_by a given has ≡ None → has ≡ true
unfolding missing_by
is_there_by a true has e f = cc
is_there_by a false true e f = refl
is_there_by a false false e f = cc

none_missing_by : (a : ℕ) (given has : Bool) → (given ≡ false → has ≡ true) → missing_by a given has ≡ None
unfolding missing_by
none_missing_by a true has each = refl
none_missing_by a false true each = refl
none_missing_by a false false each = absurd (false≢true (each refl))

-- where no fault is found, each computed attribute stands once
pub stands_once : (g : AttributeGrammar) (s : Schedule) → first_twice [] (entries s) ≡ None
    → first_missing g (entries s) ≡ None → EachStandsOnce g s
unfolding missing_by
stands_once g s twice missing a known other =
    let xs = entries s in
    let none = none_along (missing_fault g xs) (range_with_len 0 g.attribute_count) missing a
    (range_has 0 g.attribute_count a (omega arith) (omega arith)) in
    let there = is_there_by a (is_input (g.sort a)) (is_listed xs a) (not_input (g.sort a) other) none in
    let most = (at_most_once [] xs twice a).once in
    let some = counted xs a there in
    omega (arith, most, some)

-- and the other way round, where each entry is a computed attribute
pub none_is_missing : (g : AttributeGrammar) (s : Schedule) → EachStandsOnce g s → first_missing g (entries s) ≡ None
unfolding missing_by
none_is_missing g s once =
    let xs = entries s in
    along_none (missing_fault g xs) (range_with_len 0 g.attribute_count)
    (λ a there. none_missing_by a (is_input (g.sort a)) (is_listed xs a)
    (λ e. let within = in_range_from 0 g.attribute_count a there in
    let one = once a (omega (arith, within.1)) (computed (g.sort a) e) in
    listed xs a (counted_in xs a (omega (arith, one)))))

pub none_is_twice : (g : AttributeGrammar) (s : Schedule) → AreComputed g s → EachStandsOnce g s
    → first_twice [] (entries s) ≡ None
none_is_twice g s known once =
    none_twice [] (entries s) (λ a l. absurd (false≢true l)) (λ a. by a (count (entries s) a) refl)
  where
    by : (a n : ℕ) → count (entries s) a ≡ n → n ≤ 1
    by a zero e = omega arith
    by a (suc n) e =
        let of = known a (counted_in (entries s) a (omega (arith, e))) in
        let one = once a of.0 of.1 in
        omega (arith, one, e)
