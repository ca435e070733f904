-- In a legal order the writer of each read stands before the reader; and a legal order exists.
use Rattle.std.proofs.Common.{◌≡◌, ◌≢◌, ◌⊎◌, ℕ, ◌+◌, ◌<◌, ◌≤◌, Bool, true, false, refl, sym, ◌∙◌, ap, ap₂, subst, inl, inr, ⊎_elim, arith, List, length, get_or, filter, Contains}
use Rattle.std.proofs.lemmas.Bool.{cases_lt}
use Rattle.std.proofs.lemmas.List.{get_or_default}
use Rattle.ftl_model.specs.lists.Lists.{StandsBefore, sorted_by}
use Rattle.ftl_model.proofs.lists.Elements.{distinct-filter, distinct_by_number, filter_has, in_filter}
use Rattle.ftl_model.proofs.lists.Sorted.{distinct-sorted, in_sorted, sorted_at, sorted_has}
use Rattle.ftl_model.specs.layout.AttributeGrammar.{AttributeGrammar, Sort, inherited, input, local, synthesized}
use Rattle.ftl_model.specs.layout.Solves.{Instance, IsInstance}
use Rattle.ftl_model.specs.layout.Table.{instance_number, instances}
use Rattle.ftl_model.specs.layout.Tree.{Forest}
use Rattle.ftl_model.specs.layout.TreeOf.{IsTreeOf}
use Rattle.ftl_order.specs.orders.Lawful.{IsLawful}
use Rattle.ftl_order.specs.orders.LegalOrder.{IsLegalBy, IsStep, PrecedesBy}
use Rattle.ftl_order.specs.orders.Ordered.{EachPairOrdered}
use Rattle.ftl_order.specs.orders.Reads.{Reads}
use Rattle.ftl_order.specs.orders.Schedule.{Placing, Schedule, pass_at, placing_of}
use Rattle.ftl_order.proofs.orders.Instances.{instance_here, is_listed_instance, length-instances}
use Rattle.ftl_order.proofs.orders.Precedence.{HasOneKind}
use Rattle.ftl_order.proofs.orders.DirectPrecedence.{reads_direct}
use Rattle.ftl_order.proofs.orders.Rows.{direct_precedes}
use Rattle.ftl_order.proofs.orders.TreeEquations.{inside_by}

-- the attributes of one stage and pass stand in one pass
pub placing_of-one_kind : (s : Schedule) → HasOneKind (placing_of s)
placing_of-one_kind s a b same = ap₂ (λ stage pass. (pass_at s stage pass).kind) same.0 same.1

pub input_or_computed : (sort : Sort) → (sort ≡ input) ⊎ (sort ≢ input)
input_or_computed input = inl refl
input_or_computed inherited = inr (grind arith)
input_or_computed synthesized = inr (grind arith)
input_or_computed local = inr (grind arith)

abbrev pub is_computed : Sort → Bool
is_computed input = false
is_computed inherited = true
is_computed synthesized = true
is_computed local = true

pub computed : (sort : Sort) → sort ≢ input → is_computed sort ≡ true
computed input h = absurd (h refl)
computed inherited h = refl
computed synthesized h = refl
computed local h = refl

pub not_input : (sort : Sort) → is_computed sort ≡ true → sort ≢ input
not_input input h e = let z : ⊥ = grind arith in z
not_input inherited h e = let z : ⊥ = grind arith in z
not_input synthesized h e = let z : ⊥ = grind arith in z
not_input local h e = let z : ⊥ = grind arith in z

module _ (g : AttributeGrammar) (t : Forest) (law : IsLawful g) (fits : IsTreeOf g t) where
  pub listed_valid : (i : Instance) → Contains (instances g t) i → IsInstance g t i
  listed_valid i h = subst (IsInstance g t) h.2
      (instance_here g t law fits h.0 i (let b = h.1 in let e = length-instances g t in omega (arith, e, b))).0

-- A relation of steps by which some must come first, with a number that rises along it.
module _ (g : AttributeGrammar) (t : Forest) (law : IsLawful g) (fits : IsTreeOf g t)
    (First : Instance → Instance → Type 0) (number : Instance → ℕ)
    (rises : (i j : Instance) → IsStep g t i → First i j → number i < number j) where
  -- two places of an order, the second of a step that the first must come before
  pub places_rise : (order : List Instance) → IsLegalBy g t First order → (i j : Instance) → IsStep g t i → First i j
      → (m n : ℕ) → m < length order → n < length order → get_or order m i ≡ i → get_or order n j ≡ j → m < n
  places_rise order legal i j step first m n bm bn em en =
      ⊎_elim (λ less. less) (λ more. absurd (late more)) (cases_lt m n)
    where
      late : n ≤ m → ⊥
      late more =
          ⊎_elim
          (λ less.
          legal.legal n m i less bm
          (subst (λ x. First x (get_or order n i)) (sym em)
          (subst (λ y. First i y) (sym (get_or_default order n i j bn ∙ en)) first)))
          (λ least.
          let same : m ≡ n = omega (arith, more, least) in
          let e : i ≡ j = sym em ∙ ap (λ k. get_or order k i) same ∙ get_or_default order n i j bn ∙ en in
          let r = rises i j step first in
          let f : number i ≡ number j = ap number e in
          omega (arith, r, f))
          (cases_lt n m)

  abbrev steps : List Instance
  steps = filter (λ i. is_computed (g.sort i.attribute)) (instances g t)

  abbrev pub order_by_number : List Instance
  order_by_number = sorted_by number steps

  order_steps : (i : Instance) → Contains order_by_number i → IsStep g t i
  order_steps i h =
      let among = in_filter (λ x. is_computed (g.sort x.attribute)) (instances g t) i (in_sorted number steps i h) in
      (listed_valid g t law fits i among.0, not_input (g.sort i.attribute) among.1)

  -- the steps in the order of their number
  pub order_by_number_legal : IsLegalBy g t First order_by_number
  order_by_number_legal =
      record {
        steps = order_steps;
        all = λ i step.
            sorted_has number steps i
            (filter_has (λ x. is_computed (g.sort x.attribute)) (instances g t) i (is_listed_instance g t i step.0)
            (computed (g.sort i.attribute) step.1));
        once =
            distinct-sorted number steps
            (distinct-filter (λ x. is_computed (g.sort x.attribute)) (instances g t)
            (distinct_by_number (instance_number g t) (instances g t) 0
            (λ n d below. (instance_here g t law fits n d (let e = length-instances g t in omega (arith, e, below))).1
            ∙ (let z : n ≡ 0 + n = omega arith in z))));
        legal = λ m n d less below first.
            let there = order_steps (get_or order_by_number n d)
            (n, below, get_or_default order_by_number n (get_or order_by_number n d) d below) in
            let up = rises (get_or order_by_number n d) (get_or order_by_number m d) there first in
            let down = sorted_at number steps m n d less below in
            omega (arith, up, down);
      }

  -- and each read's writer comes first
  module _ (writer_first : (i j : Instance) → IsStep g t i → Reads g t i j → g.sort j.attribute ≢ input → First j i)
    where
      pub writer_is_step : (i j : Instance) → IsStep g t i → Reads g t i j → g.sort j.attribute ≢ input → IsStep g t j
      writer_is_step i j step reads computed = (
        inside_by g law t fits (g.sort i.attribute) i.node i.attribute refl step.0.0 step.0.1 j reads,
        computed,
      )

      -- the writer of each read stands before the reader
      pub writer_before : (order : List Instance) → IsLegalBy g t First order → (i j : Instance) → IsStep g t i
          → Reads g t i j
          → g.sort j.attribute ≢ input → StandsBefore order j i
      writer_before order legal i j step reads computed =
          let before = writer_is_step i j step reads computed in
          let cj = legal.all j before in
          let ci = legal.all i step in (
            cj.0,
            ci.0,
            places_rise order legal j i before (writer_first i j step reads computed) cj.0 ci.0 cj.1 ci.1 cj.2 ci.2,
            ci.1,
            (λ d. get_or_default order cj.0 d j cj.1 ∙ cj.2),
            (λ d. get_or_default order ci.0 d i ci.1 ∙ ci.2),
          )

-- under a placing that orders each pair
module _ (g : AttributeGrammar) (at : Placing) (t : Forest) (law : IsLawful g) (pairs : EachPairOrdered g at)
    (fits : IsTreeOf g t) where
  -- what a step reads, unless an input, must precede it
  pub writer_precedes : (i j : Instance) → IsStep g t i → Reads g t i j → g.sort j.attribute ≢ input
      → PrecedesBy g at j i
  writer_precedes i j step reads computed =
      ⊎_elim (λ e. absurd (computed e)) (λ near. direct_precedes g at j i near)
      (reads_direct g law at t fits pairs i j step.0 reads)
