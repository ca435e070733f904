-- The first writer that is too late is the first writer, or there is none.
use Rattle.std.proofs.Common.{◌≡◌, ℕ, suc, ◌<◌, ◌≤◌, ◌&&◌, Bool, true, false, not, if◌then◌else◌, List, [], ◌∷◌, length, get_or, Contains, Option, Some, None, refl, sym, ◌∙◌, ap, arith, subst}
use Rattle.std.specs.List.{position}
use Rattle.std.specs.Option.{option_map}
use Rattle.ftl_checked.proofs.lookup.Finding.{position_first, position_next}
use Rattle.std.proofs.lemmas.Bool.{and_parts, and_from, and_left}
use Rattle.std.proofs.lemmas.List.Quantifiers.{position-Some}
use Rattle.ftl_model.specs.layout.AttributeGrammar.{AttributeGrammar, RuleName, for_self}
use Rattle.ftl_order.specs.orders.Lawful.{class_of_rule}
use Rattle.ftl_order.specs.orders.Schedule.{Placing}
use Rattle.ftl_order.specs.dependencies.Writers.{first_writer, is_writer}
use Rattle.ftl_order.specs.declared.dependencies.dep_read.DepRead.{DepRead}
use Rattle.ftl_order.proofs.dependencies.Places.{no_position, none_passes}
use Rattle.ftl_order.specs.faults.FirstFault.{unordered_writer}
use Rattle.ftl_order.specs.faults.OrderedReads.{is_ordered_read}
use Rattle.ftl_schedule.specs.check.RuleAt.{rule_at}
use Rattle.ftl_schedule.proofs.check.OneWriter.{writers_alike}

-- tests that agree find one place
pub position-same : {X : Type 0} (p q : X → Bool) (xs : List X) → ((x : X) → p x ≡ q x) → position p xs ≡ position q xs
position-same p q [] same = refl
position-same p q (x ∷ xs) same = by (position-same p q xs same) (q x) refl
  where
    by : position p xs ≡ position q xs → (b : Bool) → q x ≡ b → position p (x ∷ xs) ≡ position q (x ∷ xs)
    by again true e = position_first p x xs (same x ∙ e) ∙ sym (position_first q x xs e)
    by again false e = position_next p x xs (same x ∙ e) ∙ ap (option_map suc) again ∙ sym (position_next q x xs e)

-- the first that passes both tests, where all that pass the first agree on the second
module _ {X : Type 0} (p q : X → Bool) (d : X) (alike : (u v : X) → p u ≡ true → p v ≡ true → q u ≡ q v) (xs : List X) where
  -- the first that passes p, where it fails q
  abbrev by_first : Option ℕ → Option ℕ
  by_first None = None
  by_first (Some n) = if q (get_or xs n d) then None else Some n

  -- whether one passes the first test and fails the second
  abbrev both : X → Bool
  both x = p x && not (q x)

  where_true : (n : ℕ) → position p xs ≡ Some n → q (get_or xs n d) ≡ true → position both xs ≡ None
  where_true n at holds =
      no_position both xs
      (λ x there passes.
      let parts = and_parts (p x) (not (q x)) passes in
      let same = alike x (get_or xs n d) parts.0 (position-Some p xs n d at).1 in
      absurd (let fails : not true ≡ true = sym (ap not (same ∙ holds)) ∙ parts.1 in cc))

  both_is : (n : ℕ) → position p xs ≡ Some n → q (get_or xs n d) ≡ false → (x : X) → both x ≡ p x
  both_is n at fails x = by (p x) refl
    where
      by : (b : Bool) → p x ≡ b → both x ≡ b
      by false e = ap (λ c. c && not (q x)) e
      by true e =
          ap (λ c. c && not (q x)) e
          ∙ ap not (alike x (get_or xs n d) e (position-Some p xs n d at).1 ∙ fails)

  pub first_of_both : position both xs ≡ by_first (position p xs)
  first_of_both = by (position p xs) refl
    where
      by : (o : Option ℕ) → position p xs ≡ o → position both xs ≡ by_first o
      by None e =
          no_position both xs
          (λ x there passes. none_passes p xs e x there (and_parts (p x) (not (q x)) passes).0)
      by (Some n) e = by_test (q (get_or xs n d)) refl
        where
          by_test : (b : Bool) → q (get_or xs n d) ≡ b → position both xs ≡ (if b then None else Some n)
          by_test true holds = where_true n e holds
          by_test false fails = position-same both p xs (both_is n e fails) ∙ e

-- the first writer, where the schedule doesn't have it earlier
abbrev pub late_writer : AttributeGrammar → Placing → (reader : RuleName) → DepRead → Option ℕ → Option ℕ
late_writer g at w d None = None
late_writer g at w d (Some n) = if is_ordered_read g at d (rule_at g n) w then None else Some n

-- the first writer tells
pub first_tells : (g : AttributeGrammar) (at : Placing) (w : RuleName) (d : DepRead)
    → unordered_writer g at w d ≡ late_writer g at w d (first_writer g (class_of_rule w) d)
first_tells g at w d =
    first_of_both (is_writer g (class_of_rule w) d) (λ v. is_ordered_read g at d v w) (for_self 0 0)
    (λ u v e f. writers_alike g at (class_of_rule w) w d u v e f) g.rules
    ∙ same (first_writer g (class_of_rule w) d)
  where
    same : (o : Option ℕ)
        → by_first (is_writer g (class_of_rule w) d) (λ v. is_ordered_read g at d v w) (for_self 0 0)
        (λ u v e f. writers_alike g at (class_of_rule w) w d u v e f) g.rules o
        ≡ late_writer g at w d o
    same None = refl
    same (Some n) = refl
