-- Tests by which a list fits, for lists that are written out.
use Rattle.std.proofs.Common.{◌≡◌, ℕ, ◌&&◌, Bool, true, false, ltb, leb, not, if◌then◌else◌, refl, sym, ◌∙◌, ap, subst}
use Rattle.std.proofs.Common.{⊎_elim, arith, leb-true, ltb-true, List, [], ◌∷◌, Option, Some, None, Contains}
use Rattle.std.proofs.lemmas.Bool.{and_parts, true≢false}
use Rattle.ftl_model.specs.lists.Lists.{AreDistinct, NoneFalls, is_listed}
use Rattle.ftl_model.proofs.lists.Elements.{in_cases, nothing_in}
use Rattle.ftl_model.proofs.lists.Listed.{listed}
use Rattle.ftl_model.specs.layout.AttributeGrammar.{AttributeGrammar, RuleName}
use Rattle.ftl_order.specs.orders.Lawful.{IsLawful}
use Rattle.ftl_order.specs.orders.Ordered.{visit_place}
use Rattle.ftl_order.specs.orders.Schedule.{PassKind, Placing}
use Rattle.ftl_order.proofs.orders.LegalOrders.{is_computed, not_input}
use Rattle.ftl_order.specs.faults.FirstFault.{reads_fault}
use Rattle.ftl_order.specs.declared.faults.fault.VerifyFault.{VerifyFault}
use Rattle.ftl_order.proofs.faults.Pairs.{reader_ordered}
use Rattle.ftl_order.specs.automatic.Fitting.{Fits, IsComputed, placing_after}

-- each number is at most the next
abbrev pub climbs : List ℕ → Bool
climbs [] = true
climbs (x ∷ []) = true
climbs (x ∷ (y ∷ ys)) = leb x y && climbs (y ∷ ys)

pub ascends : (xs : List ℕ) → climbs xs ≡ true → NoneFalls (λ a. a) xs
ascends [] e = tt
ascends (x ∷ []) e = ((λ y none. absurd (nothing_in y none)), tt)
ascends (x ∷ (y ∷ ys)) e =
    let both = and_parts (leb x y) (climbs (y ∷ ys)) e in
    let low = leb-true x y both.0 in
    let rest = ascends (y ∷ ys) both.1 in (
      (λ z h.
          ⊎_elim (λ same. omega (arith, low, same)) (λ later. let up = rest.0 z later in omega (arith, low, up))
          (in_cases y z ys h)),
      rest,
    )

-- computed, not done and no later entry
abbrev pub entry_test : AttributeGrammar → (done later : List ℕ) → ℕ → Bool
entry_test g done later a =
    (ltb a g.attribute_count && is_computed (g.sort a)) && (not (is_listed done a) && not (is_listed later a))

abbrev pub entries_test : AttributeGrammar → (done list : List ℕ) → Bool
entries_test g done [] = true
entries_test g done (a ∷ list) = entry_test g done list a && entries_test g done list

abbrev is_none : Option VerifyFault → Bool
is_none None = true
is_none (Some x) = false

none_is : (o : Option VerifyFault) → is_none o ≡ true → o ≡ None
none_is None e = refl
none_is (Some x) e = cc

-- no fault of the reads of a rule whose target is an entry
abbrev pub rule_test : AttributeGrammar → Placing → (list : List ℕ) → RuleName → Bool
rule_test g at list w = if is_listed list (visit_place g w).attribute then is_none (reads_fault g at (0, w)) else true

abbrev pub rules_test : AttributeGrammar → Placing → (list : List ℕ) → List RuleName → Bool
rules_test g at list [] = true
rules_test g at list (w ∷ ws) = rule_test g at list w && rules_test g at list ws

-- what the tests of an entry say
record EntryFits (g : AttributeGrammar) (done later : List ℕ) (a : ℕ) : Type 0 where
  computed : IsComputed g a
  not_done : Contains done a → ⊥
  not_later : Contains later a → ⊥

out_of : (xs : List ℕ) (a : ℕ) → not (is_listed xs a) ≡ true → Contains xs a → ⊥
out_of xs a e h = true≢false (sym e ∙ ap not (listed xs a h))

entry_fits : (g : AttributeGrammar) (done later : List ℕ) (a : ℕ) → entry_test g done later a ≡ true
    → EntryFits g done later a
entry_fits g done later a e =
    let both = and_parts (ltb a g.attribute_count && is_computed (g.sort a))
    (not (is_listed done a) && not (is_listed later a)) e in
    let of = and_parts (ltb a g.attribute_count) (is_computed (g.sort a)) both.0 in
    let out = and_parts (not (is_listed done a)) (not (is_listed later a)) both.1 in
    record {
      computed = (ltb-true a g.attribute_count of.0, not_input (g.sort a) of.1);
      not_done = out_of done a out.0;
      not_later = out_of later a out.1;
    }

pub record EntriesFit (g : AttributeGrammar) (done list : List ℕ) : Type 0 where
  pub distinct : AreDistinct list
  pub each : (a : ℕ) → Contains list a → IsComputed g a
  pub out : (a : ℕ) → Contains list a → Contains done a → ⊥

pub entries_fit : (g : AttributeGrammar) (done list : List ℕ) → entries_test g done list ≡ true → EntriesFit g done list
entries_fit g done [] e =
    record {
      distinct = tt;
      each = λ a none. absurd (nothing_in a none);
      out = λ a none old. nothing_in a none;
    }
entries_fit g done (x ∷ list) e =
    let both = and_parts (entry_test g done list x) (entries_test g done list) e in
    let first = entry_fits g done list x both.0 in
    let rest = entries_fit g done list both.1 in
    record {
      distinct = (first.not_later, rest.distinct);
      each = λ a h. ⊎_elim (λ same. subst (IsComputed g) same first.computed) (λ later. rest.each a later)
          (in_cases x a list h);
      out = λ a h. ⊎_elim (λ same. subst (λ b. Contains done b → ⊥) same first.not_done) (λ later. rest.out a later)
          (in_cases x a list h);
    }

rule_free : (g : AttributeGrammar) (at : Placing) (list : List ℕ) (ws : List RuleName)
    → rules_test g at list ws ≡ true → (w : RuleName) → Contains ws w → Contains list (visit_place g w).attribute
    → reads_fault g at (0, w) ≡ None
rule_free g at list [] e w none there = absurd (nothing_in w none)
rule_free g at list (v ∷ vs) e w h there =
    let both = and_parts (rule_test g at list v) (rules_test g at list vs) e in
    ⊎_elim
    (λ same. by (subst (λ u. rule_test g at list u ≡ true) same both.0))
    (λ later. rule_free g at list vs both.1 w later there)
    (in_cases v w vs h)
  where
    by : rule_test g at list w ≡ true → reads_fault g at (0, w) ≡ None
    by test =
        none_is (reads_fault g at (0, w))
        (sym (ap (λ b. if b then is_none (reads_fault g at (0, w)) else true)
        (listed list (visit_place g w).attribute there)) ∙ test)

-- a list that passes fits
pub fits_by_test : (g : AttributeGrammar) → IsLawful g → (kind : PassKind) (done list : List ℕ)
    → entries_test g done list ≡ true → rules_test g (placing_after done kind list) list g.rules ≡ true
    → Fits g kind done list
fits_by_test g law kind done list e f =
    let x = entries_fit g done list e in
    record {
      distinct = x.distinct;
      computed = x.each;
      not_done = x.out;
      ordered = λ pair is there.
          reader_ordered g (placing_after done kind list) law pair is 0
          (rule_free g (placing_after done kind list) list g.rules f pair.reader
          (law.rules_have pair.reader is.0.0) there);
    }
