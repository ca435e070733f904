-- A tree that has just the place of a pair shows it.
use Rattle.std.proofs.Common.{◌≡◌, ◌≢◌, ◌⊎◌, ℕ, zero, suc, ◌+◌, ◌<◌, ◌==◌, ◌&&◌, ◌||◌, Bool, true, false, if◌then◌else◌, refl, sym, ◌∙◌, ap, ap₂, subst, inl, inr, ⊎_elim, arith, List, [], ◌∷◌, flat_map, Contains, eqb-true, eq-eqb}
use Rattle.std.specs.List.{range_with_len}
use Rattle.std.proofs.lemmas.List.Elements.{Contains-append_left, Contains-append_right}
use Rattle.ftl_model.proofs.lists.Elements.{flat_map_has, here_in, nothing_in, range_has}
use Rattle.ftl_model.proofs.lists.Rising.{map_has}
use Rattle.ftl_model.specs.layout.Tree.{Forest, IsTree, class_of, below_of, count_in, from_kid}
use Rattle.ftl_model.specs.layout.Path.{Has, Path, at, class_at, down, kids_at}
use Rattle.ftl_model.specs.layout.AttributeGrammar.{AttributeGrammar, Occurrence, Part, Parts, Read, RuleName, Sort, each_read, first_part, first_then, fold_over, for_child, for_self, from_part, inherited, input, kid, kid_before, last_read, local, occurrences, own, plain, plain_part, prev_read, read_occurrences, reads_in, seen_by, self_read, single_read, synthesized, then_part, this_read, with_part}
use Rattle.ftl_model.specs.layout.Solves.{Instance, IsInstance, instance_of, rule_kid, rule_name, rule_named, rule_node, seen_from}
use Rattle.ftl_model.specs.layout.TreeOf.{IsTreeOf}
use Rattle.ftl_order.specs.orders.Lawful.{IsLawful, IsListChild, IsOwnSort, IsRule, OfChild, OfClass, MayReadForChild, MayReadForSelf, MayReadInStep, MayReadLater, PartsForChild, PartsForSelf, class_of_rule}
use Rattle.ftl_order.specs.orders.LegalOrder.{IsStep, turn_of}
use Rattle.ftl_order.specs.orders.Pairs.{IsPair, Pair, Where, Writes, WritesKid, WritesOwn, parent_class}
use Rattle.ftl_order.specs.orders.ReadPairs.{rule_of_step}
use Rattle.ftl_order.specs.orders.Reads.{Reads, equation_reads, rule_reads}
use Rattle.ftl_order.proofs.orders.Kids.{kid_counted}
use Rattle.ftl_order.proofs.orders.Seen.{MaySeeForSelf}
use Rattle.ftl_order.proofs.orders.TreeEquations.{inside_by, kid_instance}
use Rattle.ftl_example.specs.sizes.Place.{IsKid, Kid, any, goes_over, is_for, is_then, read_kid, reader_kids, reads_child, singles_alone, two_kids}
use Rattle.ftl_example.specs.shows.Shows.{ReadIs, Shows, at_hand}
use Rattle.ftl_example.specs.sizes.Wants.{AreKids}
use Rattle.ftl_example.proofs.sizes.KidSums.{count_first, from_later}
use Rattle.ftl_example.proofs.shows.ReadFacts.{no_true, one_in}

-- what a read of a part is of, at a kid at hand, is among what the rule reads
pub read_among : (parts : Parts) (part : Part) (kids : ℕ → ℕ) (k n : ℕ) (r : Read) (o : Occurrence)
    → Contains (reads_in parts part) r → Contains (at_hand parts part kids k) n → Contains (occurrences kids n r) o
    → Contains (read_occurrences parts kids k) o
read_among (plain reads) plain_part kids k n r o in_part hand seen =
    flat_map_has (occurrences kids k) reads r o in_part
    (subst (λ m. Contains (occurrences kids m r) o) (one_in k n hand) seen)
read_among (plain reads) first_part kids k n r o in_part hand seen = absurd (nothing_in r in_part)
read_among (plain reads) then_part kids k n r o in_part hand seen = absurd (nothing_in r in_part)
read_among (plain reads) from_part kids k n r o in_part hand seen = absurd (nothing_in r in_part)
read_among (plain reads) with_part kids k n r o in_part hand seen = absurd (nothing_in r in_part)
read_among (first_then first later) plain_part kids k n r o in_part hand seen = absurd (nothing_in r in_part)
read_among (first_then first later) first_part kids zero n r o in_part hand seen =
    flat_map_has (occurrences kids 0) first r o in_part
    (subst (λ m. Contains (occurrences kids m r) o) (one_in 0 n hand) seen)
read_among (first_then first later) first_part kids (suc k) n r o in_part hand seen = absurd (nothing_in n hand)
read_among (first_then first later) then_part kids zero n r o in_part hand seen = absurd (nothing_in n hand)
read_among (first_then first later) then_part kids (suc k) n r o in_part hand seen =
    flat_map_has (occurrences kids (suc k)) later r o in_part
    (subst (λ m. Contains (occurrences kids m r) o) (one_in (suc k) n hand) seen)
read_among (first_then first later) from_part kids k n r o in_part hand seen = absurd (nothing_in r in_part)
read_among (first_then first later) with_part kids k n r o in_part hand seen = absurd (nothing_in r in_part)
read_among (fold_over c start step) plain_part kids k n r o in_part hand seen = absurd (nothing_in r in_part)
read_among (fold_over c start step) first_part kids k n r o in_part hand seen = absurd (nothing_in r in_part)
read_among (fold_over c start step) then_part kids k n r o in_part hand seen = absurd (nothing_in r in_part)
read_among (fold_over c start step) from_part kids k n r o in_part hand seen =
    Contains-append_left (seen_by kids k start) (flat_map (λ m. seen_by kids m step) (range_with_len 0 (kids c))) o
    (flat_map_has (occurrences kids k) start r o in_part
    (subst (λ m. Contains (occurrences kids m r) o) (one_in k n hand) seen))
read_among (fold_over c start step) with_part kids k n r o in_part hand seen =
    Contains-append_right (seen_by kids k start) (flat_map (λ m. seen_by kids m step) (range_with_len 0 (kids c))) o
    (flat_map_has (λ m. seen_by kids m step) (range_with_len 0 (kids c)) n o hand
    (flat_map_has (occurrences kids n) step r o in_part seen))

-- the kid that a reader is for, in the least case
abbrev pub number : Part → ℕ
number plain_part = 0
number first_part = 0
number then_part = 1
number from_part = 0
number with_part = 0

then_one : (part : Part) → is_then part ≡ true → number part ≡ 1
then_one plain_part e = no_true e
then_one first_part e = no_true e
then_one then_part e = refl
then_one from_part e = no_true e
then_one with_part e = no_true e

else_zero : (part : Part) → is_then part ≡ false → number part ≡ 0
else_zero plain_part e = refl
else_zero first_part e = refl
else_zero then_part e = no_true (sym e)
else_zero from_part e = refl
else_zero with_part e = refl

-- a kid comes to hand
hand_there : (parts : Parts) (part : Part) (kids : ℕ → ℕ) (r : Read) → Contains (reads_in parts part) r
    → ((c : ℕ) → goes_over parts part c ≡ true → 0 < kids c)
    → Contains (at_hand parts part kids (number part)) (number part)
hand_there (plain reads) plain_part kids r h over = here_in 0 []
hand_there (plain reads) first_part kids r h over = absurd (nothing_in r h)
hand_there (plain reads) then_part kids r h over = absurd (nothing_in r h)
hand_there (plain reads) from_part kids r h over = absurd (nothing_in r h)
hand_there (plain reads) with_part kids r h over = absurd (nothing_in r h)
hand_there (first_then first later) plain_part kids r h over = absurd (nothing_in r h)
hand_there (first_then first later) first_part kids r h over = here_in 0 []
hand_there (first_then first later) then_part kids r h over = here_in 1 []
hand_there (first_then first later) from_part kids r h over = absurd (nothing_in r h)
hand_there (first_then first later) with_part kids r h over = absurd (nothing_in r h)
hand_there (fold_over c start step) plain_part kids r h over = absurd (nothing_in r h)
hand_there (fold_over c start step) first_part kids r h over = absurd (nothing_in r h)
hand_there (fold_over c start step) then_part kids r h over = absurd (nothing_in r h)
hand_there (fold_over c start step) from_part kids r h over = here_in 0 []
hand_there (fold_over c start step) with_part kids r h over =
    let some = over c (eq-eqb c c refl) in range_has 0 (kids c) 0 (omega arith) (omega (arith, some))

module _ (g : AttributeGrammar) where
  -- what a rule for the node itself may read
  pub self_may : (k : ℕ) (parts : Parts) (part : Part) (r : Read) → PartsForSelf g k parts → Contains (reads_in parts part) r
      → (is_then part ≡ false) × MaySeeForSelf g k r
  self_may k (plain reads) plain_part r may h = (refl, plain_may r (may r h))
    where
      plain_may : (r : Read) → MayReadForSelf g k r → MaySeeForSelf g k r
      plain_may (self_read a) m = m
      plain_may (single_read d a) m = m
      plain_may (each_read d a) m = absurd m
      plain_may (this_read d a) m = absurd m
      plain_may (prev_read d a) m = absurd m
      plain_may (last_read d a) m = m
  self_may k (plain reads) first_part r may h = absurd (nothing_in r h)
  self_may k (plain reads) then_part r may h = absurd (nothing_in r h)
  self_may k (plain reads) from_part r may h = absurd (nothing_in r h)
  self_may k (plain reads) with_part r may h = absurd (nothing_in r h)
  self_may k (first_then first later) part r may h = absurd may
  self_may k (fold_over c start step) plain_part r may h = absurd (nothing_in r h)
  self_may k (fold_over c start step) first_part r may h = absurd (nothing_in r h)
  self_may k (fold_over c start step) then_part r may h = absurd (nothing_in r h)
  self_may k (fold_over c start step) from_part r may h = (refl, start_may r (may.1 r h))
    where
      start_may : (r : Read) → MayReadForSelf g k r → MaySeeForSelf g k r
      start_may (self_read a) m = m
      start_may (single_read d a) m = m
      start_may (each_read d a) m = absurd m
      start_may (this_read d a) m = absurd m
      start_may (prev_read d a) m = absurd m
      start_may (last_read d a) m = m
  self_may k (fold_over c start step) with_part r may h = (refl, step_may r (may.2 r h))
    where
      step_may : (r : Read) → MayReadInStep g k c r → MaySeeForSelf g k r
      step_may (self_read a) m = m
      step_may (single_read d a) m = m
      step_may (each_read d a) m =
          subst (λ x. IsListChild g k x × OfChild g k x a) (sym m.0) (may.0, m.1)
      step_may (this_read d a) m = absurd m
      step_may (prev_read d a) m = absurd m
      step_may (last_read d a) m = m

  -- what a rule for the kids of child c may read
  pub child_may : (k c : ℕ) (parts : Parts) (part : Part) (r : Read) → PartsForChild g k c parts
      → Contains (reads_in parts part) r
      → ((is_then part ≡ true) × IsListChild g k c × MayReadLater g k c r)
      ⊎ ((is_then part ≡ false) × MayReadForChild g k c r)
  child_may k c (plain reads) plain_part r may h = inr (refl, may r h)
  child_may k c (plain reads) first_part r may h = absurd (nothing_in r h)
  child_may k c (plain reads) then_part r may h = absurd (nothing_in r h)
  child_may k c (plain reads) from_part r may h = absurd (nothing_in r h)
  child_may k c (plain reads) with_part r may h = absurd (nothing_in r h)
  child_may k c (first_then first later) plain_part r may h = absurd (nothing_in r h)
  child_may k c (first_then first later) first_part r may h = inr (refl, may.1 r h)
  child_may k c (first_then first later) then_part r may h = inl (refl, may.0, may.2 r h)
  child_may k c (first_then first later) from_part r may h = absurd (nothing_in r h)
  child_may k c (first_then first later) with_part r may h = absurd (nothing_in r h)
  child_may k c (fold_over d start step) part r may h = absurd may

  -- a fold goes over a declared child
  self_over : (k : ℕ) (parts : Parts) (part : Part) → PartsForSelf g k parts → (c : ℕ) → goes_over parts part c ≡ true
      → c < g.child_count k
  self_over k (plain reads) part may c e = no_true e
  self_over k (first_then first later) part may c e = absurd may
  self_over k (fold_over d start step) plain_part may c e = no_true e
  self_over k (fold_over d start step) first_part may c e = no_true e
  self_over k (fold_over d start step) then_part may c e = no_true e
  self_over k (fold_over d start step) from_part may c e = no_true e
  self_over k (fold_over d start step) with_part may c e =
      subst (λ x. x < g.child_count k) (eqb-true d c e) may.0.0

  child_over : (k d : ℕ) (parts : Parts) (part : Part) → PartsForChild g k d parts → (c : ℕ)
      → goes_over parts part c ≡ true → c < g.child_count k
  child_over k d (plain reads) part may c e = no_true e
  child_over k d (first_then first later) part may c e = no_true e
  child_over k d (fold_over b start step) part may c e = absurd may

  own_computed : (class a : ℕ) (runs_at : Where) (w : RuleName) (s : Sort) → WritesOwn g s class a runs_at w → s ≢ input
  own_computed class a runs_at w input h e = h
  own_computed class a runs_at w inherited h e = (let z : ⊥ = grind (arith, e) in z)
  own_computed class a runs_at w synthesized h e = (let z : ⊥ = grind (arith, e) in z)
  own_computed class a runs_at w local h e = (let z : ⊥ = grind (arith, e) in z)

  kid_computed : (class d a : ℕ) (runs_at : Where) (w : RuleName) (s : Sort) → WritesKid g s class d a runs_at w
      → s ≢ input
  kid_computed class d a runs_at w input h e = h
  kid_computed class d a runs_at w inherited h e = (let z : ⊥ = grind (arith, e) in z)
  kid_computed class d a runs_at w synthesized h e = (let z : ⊥ = grind (arith, e) in z)
  kid_computed class d a runs_at w local h e = h

over_then : (parts : Parts) (part : Part) (c : ℕ) → goes_over parts part c ≡ true → is_then part ≡ false
over_then parts plain_part c e = refl
over_then parts first_part c e = refl
over_then (plain reads) then_part c e = no_true e
over_then (first_then first later) then_part c e = no_true e
over_then (fold_over d start step) then_part c e = no_true e
over_then parts from_part c e = refl
over_then parts with_part c e = refl

module _ (c : ℕ) (f : Forest) where
  first_of : (x : Kid) (xs : List Kid) → AreKids IsKid c (x ∷ xs) f
      → IsTree (from_kid c 0 f) × IsKid x (class_of (from_kid c 0 f)) (below_of (from_kid c 0 f))
  first_of x xs h = (h.0, h.1)

  second_of : (x y : Kid) (xs : List Kid) → AreKids IsKid c (x ∷ (y ∷ xs)) f
      → IsTree (from_kid c 1 f) × IsKid y (class_of (from_kid c 1 f)) (below_of (from_kid c 1 f))
  second_of x y xs h =
      subst (λ t. IsTree t × IsKid y (class_of t) (below_of t))
      (from_later c 0 0 f h.0 ∙ ap (λ n. from_kid c n f) (let z : suc (0 + 0) ≡ 1 = omega arith in z)) (h.2.0, h.2.1)

  one_count : (x : Kid) → AreKids IsKid c (x ∷ []) f → count_in c f ≡ 1
  one_count x h = count_first c f h.0 ∙ ap suc h.2

  two_there : (r : Read) (x : Kid) → AreKids IsKid c (two_kids r x) f → IsTree (from_kid c 1 f)
  two_there (self_read a) x h = (second_of any any [] h).0
  two_there (single_read d a) x h = (second_of any any [] h).0
  two_there (each_read d a) x h = (second_of any any [] h).0
  two_there (this_read d a) x h = (second_of any x [] h).0
  two_there (prev_read d a) x h = (second_of x any [] h).0
  two_there (last_read d a) x h = (second_of any any [] h).0

module _ (g : AttributeGrammar) (law : IsLawful g) (t : Forest) (fits : IsTreeOf g t) (pair : Pair) (is : IsPair g pair)
    (p : Path) (there : Has t p) (class : class_at t p ≡ class_of_rule pair.reader)
    (kids : (c : ℕ) → c < g.child_count (class_of_rule pair.reader) → AreKids IsKid c (reader_kids g pair c) (below_of (at t p)))
    (up : pair.runs_at ≡ parent_class → (c m : ℕ) × (q : Path) × (p ≡ down c m q) × (class_at t q ≡ class_of_rule pair.writer)
    × (is_for pair.writer c ≡ true)) where
  two_kids_here : (c : ℕ) → c < g.child_count (class_of_rule pair.reader) → is_for pair.reader c ≡ true
      → is_then pair.part ≡ true
      → AreKids IsKid c (two_kids pair.read (read_kid pair.runs_at pair.writer)) (below_of (at t p))
  two_kids_here c known e f =
      subst (λ b. AreKids IsKid c (if b then two_kids pair.read (read_kid pair.runs_at pair.writer)
      else (if reads_child pair.read c then read_kid pair.runs_at pair.writer ∷ []
      else (if is_for pair.reader c || goes_over (rule_named g pair.reader).parts pair.part c then any ∷ []
      else singles_alone g any (class_of_rule pair.reader) c))) (below_of (at t p)))
      (ap₂ (λ a b. a && b) e f) (kids c known)

  others_here : (c : ℕ) → c < g.child_count (class_of_rule pair.reader)
      → is_for pair.reader c && is_then pair.part ≡ false
      → AreKids IsKid c (if reads_child pair.read c then read_kid pair.runs_at pair.writer ∷ []
      else (if is_for pair.reader c || goes_over (rule_named g pair.reader).parts pair.part c then any ∷ []
      else singles_alone g any (class_of_rule pair.reader) c)) (below_of (at t p))
  others_here c known e =
      subst (λ b. AreKids IsKid c (if b then two_kids pair.read (read_kid pair.runs_at pair.writer)
      else (if reads_child pair.read c then read_kid pair.runs_at pair.writer ∷ []
      else (if is_for pair.reader c || goes_over (rule_named g pair.reader).parts pair.part c then any ∷ []
      else singles_alone g any (class_of_rule pair.reader) c))) (below_of (at t p)))
      e (kids c known)

  read_here : (c : ℕ) → c < g.child_count (class_of_rule pair.reader)
      → is_for pair.reader c && is_then pair.part ≡ false → reads_child pair.read c ≡ true
      → AreKids IsKid c (read_kid pair.runs_at pair.writer ∷ []) (below_of (at t p))
  read_here c known e f =
      subst (λ b. AreKids IsKid c (if b then read_kid pair.runs_at pair.writer ∷ []
      else (if is_for pair.reader c || goes_over (rule_named g pair.reader).parts pair.part c then any ∷ []
      else singles_alone g any (class_of_rule pair.reader) c)) (below_of (at t p)))
      f (others_here c known e)

  -- a child that the part runs for has a kid
  kid_there : (c : ℕ) → c < g.child_count (class_of_rule pair.reader)
      → is_for pair.reader c && is_then pair.part ≡ false
      → is_for pair.reader c || goes_over (rule_named g pair.reader).parts pair.part c ≡ true
      → Has t (down c 0 p)
  kid_there c known e f =
      (elim (reads_child pair.read c) as
      (λ b. AreKids IsKid c (if b then read_kid pair.runs_at pair.writer ∷ []
      else (if is_for pair.reader c || goes_over (rule_named g pair.reader).parts pair.part c then any ∷ []
      else singles_alone g any (class_of_rule pair.reader) c)) (below_of (at t p)) → Has t (down c 0 p)) [
        | true ↦ λ h. h.0
        | false ↦ λ h.
            (subst (λ b. AreKids IsKid c (if b then any ∷ [] else singles_alone g any (class_of_rule pair.reader) c)
            (below_of (at t p))) f h).0
      ]) (others_here c known e)

  own_there : (c : ℕ) → c < g.child_count (class_of_rule pair.reader) → is_for pair.reader c ≡ true
      → Has t (down c (number pair.part) p)
  own_there c known e =
      elim (is_then pair.part) as (λ b. (is_then pair.part ≡ b) → Has t (down c (number pair.part) p)) [
        | true ↦ λ f.
            subst (λ n. Has t (down c n p)) (sym (then_one pair.part f))
            (two_there c (below_of (at t p)) pair.read (read_kid pair.runs_at pair.writer) (two_kids_here c known e f))
        | false ↦ λ f.
            subst (λ n. Has t (down c n p)) (sym (else_zero pair.part f))
            (kid_there c known (ap₂ (λ a b. a && b) e f)
            (ap (λ a. a || goes_over (rule_named g pair.reader).parts pair.part c) e))
      ] refl

  record Reader : Type 0 where
    pub r : Instance
    pub step : IsStep g t r
    pub name : rule_of_step g t r ≡ pair.reader
    pub visit : (turn_of g r).visit ≡ p
    pub kid_is : (turn_of g r).kid ≡ number pair.part
    pub reads :
        (o : Occurrence)
        → Contains (read_occurrences (rule_named g pair.reader).parts (kids_at t p) (number pair.part)) o
        → Reads g t r (seen_from p o)
    pub over : (c : ℕ) → goes_over (rule_named g pair.reader).parts pair.part c ≡ true
        → c < g.child_count (class_of_rule pair.reader)

  record Found : Type 0 where
    pub o : Occurrence
    pub seen : Contains (occurrences (kids_at t p) (number pair.part) pair.read) o
    pub computed : g.sort (seen_from p o).attribute ≢ input
    pub name : rule_of_step g t (seen_from p o) ≡ pair.writer

  shown_by : Reader → Found → (r w : Instance) × Shows g t pair r w
  shown_by x y =
      let w = seen_from p y.o in
      let parts = (rule_named g pair.reader).parts in
      let hand = hand_there parts pair.part (kids_at t p) pair.read is.0.1
      (λ c e. kid_counted c 0 (below_of (at t p))
      (kid_there c (x.over c e)
      (ap (λ b. is_for pair.reader c && b) (over_then parts pair.part c e) ∙ and_false (is_for pair.reader c))
      (ap (λ b. is_for pair.reader c || b) e ∙ or_true (is_for pair.reader c)))) in
      let reads = x.reads y.o
      (read_among parts pair.part (kids_at t p) (number pair.part) (number pair.part) pair.read y.o is.0.1 hand y.seen) in (
        x.r,
        w,
        record {
          reader_there = x.step;
          writer_there = (
            inside_by g law t fits (g.sort x.r.attribute) x.r.node x.r.attribute refl x.step.0.0 x.step.0.1 w reads,
            y.computed,
          );
          reader = x.name;
          writer = y.name;
          read =
              subst (λ q. ReadIs t parts pair.part q (turn_of g x.r).kid pair.read w) (sym x.visit)
              (subst (λ k. ReadIs t parts pair.part p k pair.read w) (sym x.kid_is)
              (number pair.part, hand, (y.o, y.seen, refl)));
        },
      )
    where
      and_false : (a : Bool) → a && false ≡ false
      and_false true = refl
      and_false false = refl

      or_true : (a : Bool) → a || true ≡ true
      or_true true = refl
      or_true false = refl

  -- what is read of the node itself
  own_found : (a : ℕ) → pair.read ≡ self_read a → Found
  own_found a e =
      let writes = subst (λ r. Writes g (class_of_rule pair.reader) r pair.runs_at pair.writer) e is.1 in
      record {
        o = own a;
        seen = subst (λ r. Contains (occurrences (kids_at t p) (number pair.part) r) (own a)) (sym e) (here_in (own a) []);
        computed = own_computed g (class_of_rule pair.reader) a pair.runs_at pair.writer (g.sort a) writes;
        name = named (g.sort a) writes;
      }
    where
      named : (s : Sort) → WritesOwn g s (class_of_rule pair.reader) a pair.runs_at pair.writer
          → rule_name t s p a ≡ pair.writer
      named input h = absurd h
      named synthesized h = ap (λ k. for_self k a) class ∙ sym h.1
      named local h = ap (λ k. for_self k a) class ∙ sym h.1
      named inherited h =
          let u = up h.5 in
          let k : class_at t u.2 ≡ h.0 = u.4 ∙ ap class_of_rule h.6 in
          let d : h.1 ≡ u.0 = eqb-true h.1 u.0 (subst (λ w. is_for w u.0 ≡ true) h.6 u.5) in
          subst (λ q. rule_name t inherited q a ≡ pair.writer) (sym u.3)
          (ap (λ x. for_child x u.0 a) k ∙ ap (λ x. for_child h.0 x a) (sym d) ∙ sym h.6)

  -- what is read of a kid
  kid_found : (d m a : ℕ) → Contains (occurrences (kids_at t p) (number pair.part) pair.read) (kid d m a)
      → IsKid (read_kid pair.runs_at pair.writer) (class_at t (down d m p)) (below_of (at t (down d m p)))
      → WritesKid g (g.sort a) (class_of_rule pair.reader) d a pair.runs_at pair.writer → Found
  kid_found d m a seen kind writes =
      record {
        o = kid d m a;
        seen = seen;
        computed = kid_computed g (class_of_rule pair.reader) d a pair.runs_at pair.writer (g.sort a) writes;
        name = named (g.sort a) writes;
      }
    where
      named : (s : Sort) → WritesKid g s (class_of_rule pair.reader) d a pair.runs_at pair.writer
          → rule_name t s (down d m p) a ≡ pair.writer
      named input h = absurd h
      named inherited h = ap (λ k. for_child k d a) class ∙ sym h.1
      named synthesized h =
          let k : class_at t (down d m p) ≡ class_of_rule pair.writer =
          subst (λ x. IsKid (read_kid x pair.writer) (class_at t (down d m p)) (below_of (at t (down d m p)))) h.3 kind in
          ap (λ x. for_self x a) (k ∙ ap class_of_rule h.4) ∙ sym h.4
      named local h = absurd h

  -- the only kid of its child
  only_found : (d a : ℕ) → d < g.child_count (class_of_rule pair.reader)
      → is_for pair.reader d && is_then pair.part ≡ false → reads_child pair.read d ≡ true
      → (count_in d (below_of (at t p)) ≡ 1
      → Contains (occurrences (kids_at t p) (number pair.part) pair.read) (kid d 0 a))
      → WritesKid g (g.sort a) (class_of_rule pair.reader) d a pair.runs_at pair.writer → Found
  only_found d a known e f seen writes =
      let here = read_here d known e f in
      kid_found d 0 a (seen (one_count d (below_of (at t p)) (read_kid pair.runs_at pair.writer) here)) here.1 writes

  -- a read of a rule for the node itself
  self_found : (k b : ℕ) → pair.reader ≡ for_self k b → Found
  self_found k b e = go pair.read refl may.1
    where
      may : (is_then pair.part ≡ false) × MaySeeForSelf g k pair.read
      may =
          self_may g k (g.self_rule k b).parts pair.part pair.read
          (law.self_parts k b (subst (IsRule g) e is.0.0))
          (subst (λ w. Contains (reads_in (rule_named g w).parts pair.part) pair.read) e is.0.1)

      not_own : (d : ℕ) → is_for pair.reader d && is_then pair.part ≡ false
      not_own d = ap (λ w. is_for w d && is_then pair.part) e

      zero_hand : number pair.part ≡ 0
      zero_hand = else_zero pair.part may.0

      known : (d : ℕ) → d < g.child_count k → d < g.child_count (class_of_rule pair.reader)
      known d l = subst (λ w. d < g.child_count (class_of_rule w)) (sym e) l

      writes : (r : Read) → pair.read ≡ r → Writes g (class_of_rule pair.reader) r pair.runs_at pair.writer
      writes r f = subst (λ r. Writes g (class_of_rule pair.reader) r pair.runs_at pair.writer) f is.1

      reads : (d : ℕ) (r : Read) → pair.read ≡ r → reads_child r d ≡ true → reads_child pair.read d ≡ true
      reads d r f h = subst (λ r. reads_child r d ≡ true) (sym f) h

      sees : (o : Occurrence) (r : Read) → pair.read ≡ r → Contains (occurrences (kids_at t p) 0 r) o
          → Contains (occurrences (kids_at t p) (number pair.part) pair.read) o
      sees o r f h =
          subst (λ n. Contains (occurrences (kids_at t p) n pair.read) o) (sym zero_hand)
          (subst (λ r. Contains (occurrences (kids_at t p) 0 r) o) (sym f) h)

      go : (r : Read) → pair.read ≡ r → MaySeeForSelf g k pair.read → Found
      go r f m = by_read r f (subst (MaySeeForSelf g k) f m)
        where
          by_read : (r : Read) → pair.read ≡ r → MaySeeForSelf g k r → Found
          by_read (self_read a) f m = own_found a f
          by_read (single_read d a) f m =
              only_found d a (known d m.0.0) (not_own d) (reads d (single_read d a) f (eq-eqb d d refl))
              (λ one. sees (kid d 0 a) (single_read d a) f (here_in (kid d 0 a) [])) (writes (single_read d a) f)
          by_read (each_read d a) f m =
              only_found d a (known d m.0.0) (not_own d) (reads d (each_read d a) f (eq-eqb d d refl))
              (λ one. sees (kid d 0 a) (each_read d a) f (here_in (kid d 0 a) [])) (writes (each_read d a) f)
          by_read (this_read d a) f m = absurd m
          by_read (prev_read d a) f m = absurd m
          by_read (last_read d a) f m =
              only_found d a (known d m.0.0) (not_own d) (reads d (last_read d a) f (eq-eqb d d refl))
              (λ one. sees (kid d 0 a) (last_read d a) f
              (subst (λ n. Contains (kid_before d a n) (kid d 0 a)) (sym one) (here_in (kid d 0 a) [])))
              (writes (last_read d a) f)

  -- a read of a rule for the kids of a child
  child_found : (k c b : ℕ) → pair.reader ≡ for_child k c b → Found
  child_found k c b e =
      ⊎_elim (λ later. then_read later.0 later.1 pair.read refl later.2) (λ m. else_read m.0 pair.read refl m.1)
      (child_may g k c (g.child_rule k c b).parts pair.part pair.read
      (law.child_parts k c b rule)
      (subst (λ w. Contains (reads_in (rule_named g w).parts pair.part) pair.read) e is.0.1))
    where
      rule : IsRule g (for_child k c b)
      rule = subst (IsRule g) e is.0.0

      own : is_for pair.reader c ≡ true
      own = ap (λ w. is_for w c) e ∙ eq-eqb c c refl

      not_own : (d : ℕ) → (c ≡ d → ⊥) → is_for pair.reader d && is_then pair.part ≡ false
      not_own d differ =
          ap (λ w. is_for w d && is_then pair.part) e
          ∙ (elim (c == d) as (λ x. (c == d ≡ x) → x && is_then pair.part ≡ false)
          [ true ↦ λ h. absurd (differ (eqb-true c d h)) | false ↦ λ h. refl ] refl)

      not_then : (d : ℕ) → is_then pair.part ≡ false → is_for pair.reader d && is_then pair.part ≡ false
      not_then d h =
          ap (λ x. is_for pair.reader d && x) h
          ∙ (elim (is_for pair.reader d) as (λ x. x && false ≡ false) [ true ↦ refl | false ↦ refl ])

      known : (d : ℕ) → d < g.child_count k → d < g.child_count (class_of_rule pair.reader)
      known d l = subst (λ w. d < g.child_count (class_of_rule w)) (sym e) l

      writes : (r : Read) → pair.read ≡ r → Writes g (class_of_rule pair.reader) r pair.runs_at pair.writer
      writes r f = subst (λ r. Writes g (class_of_rule pair.reader) r pair.runs_at pair.writer) f is.1

      reads : (d : ℕ) (r : Read) → pair.read ≡ r → reads_child r d ≡ true → reads_child pair.read d ≡ true
      reads d r f h = subst (λ r. reads_child r d ≡ true) (sym f) h

      sees : (n : ℕ) → number pair.part ≡ n → (o : Occurrence) (r : Read) → pair.read ≡ r
          → Contains (occurrences (kids_at t p) n r) o
          → Contains (occurrences (kids_at t p) (number pair.part) pair.read) o
      sees n zero_hand o r f h =
          subst (λ n. Contains (occurrences (kids_at t p) n pair.read) o) (sym zero_hand)
          (subst (λ r. Contains (occurrences (kids_at t p) n r) o) (sym f) h)

      apart : (d : ℕ) → g.is_list k c ≡ true → g.is_list k d ≡ false → c ≡ d → ⊥
      apart d list single same =
          let h : g.is_list k d ≡ true = subst (λ x. g.is_list k x ≡ true) same list in
          let z : ⊥ = grind arith in z

      -- in the part for later kids
      then_read : is_then pair.part ≡ true → IsListChild g k c → (r : Read) → pair.read ≡ r → MayReadLater g k c pair.read
          → Found
      then_read later list r f m = by_read r f (subst (MayReadLater g k c) f m)
        where
          one : number pair.part ≡ 1
          one = then_one pair.part later

          two : (r : Read) → pair.read ≡ r
              → AreKids IsKid c (two_kids r (read_kid pair.runs_at pair.writer)) (below_of (at t p))
          two r f =
              subst (λ r. AreKids IsKid c (two_kids r (read_kid pair.runs_at pair.writer)) (below_of (at t p))) f
              (two_kids_here c (known c list.0) own later)

          by_read : (r : Read) → pair.read ≡ r → MayReadLater g k c r → Found
          by_read (self_read a) f m = own_found a f
          by_read (single_read d a) f m =
              only_found d a (known d m.0.0) (not_own d (apart d list.1 m.0.1)) (reads d (single_read d a) f (eq-eqb d d refl))
              (λ count. sees 1 one (kid d 0 a) (single_read d a) f (here_in (kid d 0 a) [])) (writes (single_read d a) f)
          by_read (each_read d a) f m = absurd m
          by_read (this_read d a) f m =
              let s = second_of c (below_of (at t p)) any (read_kid pair.runs_at pair.writer) [] (two (this_read d a) f) in
              kid_found d 1 a (sees 1 one (kid d 1 a) (this_read d a) f (here_in (kid d 1 a) []))
              (subst (λ x. IsKid (read_kid pair.runs_at pair.writer) (class_at t (down x 1 p)) (below_of (at t (down x 1 p))))
              (sym m.0) s.1)
              (writes (this_read d a) f)
          by_read (prev_read d a) f m =
              let s = first_of c (below_of (at t p)) (read_kid pair.runs_at pair.writer) (any ∷ []) (two (prev_read d a) f) in
              kid_found d 0 a (sees 1 one (kid d 0 a) (prev_read d a) f (here_in (kid d 0 a) []))
              (subst (λ x. IsKid (read_kid pair.runs_at pair.writer) (class_at t (down x 0 p)) (below_of (at t (down x 0 p))))
              (sym m.0) s.1)
              (writes (prev_read d a) f)
          by_read (last_read d a) f m =
              let single = m.0.1 in let l = list.1 in
              absurd (let z : ⊥ = grind (arith, single, l) in z)

      -- in another part
      else_read : is_then pair.part ≡ false → (r : Read) → pair.read ≡ r → MayReadForChild g k c pair.read → Found
      else_read other r f m = by_read r f (subst (MayReadForChild g k c) f m)
        where
          none : number pair.part ≡ 0
          none = else_zero pair.part other

          by_read : (r : Read) → pair.read ≡ r → MayReadForChild g k c r → Found
          by_read (self_read a) f m = own_found a f
          by_read (single_read d a) f m =
              only_found d a (known d m.0.0) (not_then d other) (reads d (single_read d a) f (eq-eqb d d refl))
              (λ count. sees 0 none (kid d 0 a) (single_read d a) f (here_in (kid d 0 a) [])) (writes (single_read d a) f)
          by_read (each_read d a) f m = absurd m
          by_read (this_read d a) f m =
              only_found d a (known d (subst (λ x. x < g.child_count k) (sym m.0) m.1.0)) (not_then d other)
              (reads d (this_read d a) f (eq-eqb d d refl))
              (λ count. sees 0 none (kid d 0 a) (this_read d a) f (here_in (kid d 0 a) [])) (writes (this_read d a) f)
          by_read (prev_read d a) f m = absurd m
          by_read (last_read d a) f m =
              only_found d a (known d m.1.0) (not_then d other) (reads d (last_read d a) f (eq-eqb d d refl))
              (λ count. sees 0 none (kid d 0 a) (last_read d a) f
              (subst (λ n. Contains (kid_before d a n) (kid d 0 a)) (sym count) (here_in (kid d 0 a) [])))
              (writes (last_read d a) f)

  -- the reader's instance
  self_reader : (k b : ℕ) → pair.reader ≡ for_self k b → Reader
  self_reader k b e = by_sort (g.sort b) refl rule.2
    where
      rule : IsRule g (for_self k b)
      rule = subst (IsRule g) e is.0.0

      here : class_at t p ≡ k
      here = class ∙ ap class_of_rule e

      none : number pair.part ≡ 0
      none =
          else_zero pair.part
          (self_may g k (g.self_rule k b).parts pair.part pair.read (law.self_parts k b rule)
          (subst (λ w. Contains (reads_in (rule_named g w).parts pair.part) pair.read) e is.0.1)).0

      over : (c : ℕ) → goes_over (rule_named g pair.reader).parts pair.part c ≡ true
          → c < g.child_count (class_of_rule pair.reader)
      over c h =
          subst (λ w. c < g.child_count (class_of_rule w)) (sym e)
          (self_over g k (g.self_rule k b).parts pair.part (law.self_parts k b rule) c
          (subst (λ w. goes_over (rule_named g w).parts pair.part c ≡ true) e h))

      instance_there : IsInstance g t (instance_of p b)
      instance_there = (there, subst (λ x. OfClass g x b) (sym here) rule.1)

      reads_from : (s : Sort) → (equation_reads g t s p b ≡ rule_reads t (g.self_rule (class_at t p) b) p 0)
          → (o : Occurrence)
          → Contains (read_occurrences (rule_named g pair.reader).parts (kids_at t p) (number pair.part)) o
          → Contains (equation_reads g t s p b) (seen_from p o)
      reads_from s same o h =
          subst (λ x. Contains x (seen_from p o)) (sym same)
          (map_has (seen_from p) (read_occurrences (g.self_rule (class_at t p) b).parts (kids_at t p) 0) o
          (subst (λ x. Contains (read_occurrences (g.self_rule x b).parts (kids_at t p) 0) o) (sym here)
          (subst (λ w. Contains (read_occurrences (rule_named g w).parts (kids_at t p) 0) o) e
          (subst (λ n. Contains (read_occurrences (rule_named g pair.reader).parts (kids_at t p) n) o) none h))))

      -- by the sort of the attribute, which is not an inherited one
      with_sort : (s : Sort) → g.sort b ≡ s → s ≢ input → rule_name t s p b ≡ for_self (class_at t p) b
          → rule_node s p ≡ p → rule_kid s p ≡ 0
          → (equation_reads g t s p b ≡ rule_reads t (g.self_rule (class_at t p) b) p 0) → Reader
      with_sort s f computed named node zero_kid same =
          record {
            r = instance_of p b;
            step = (instance_there, (λ h. computed (sym f ∙ h)));
            name =
                ap (λ x. rule_name t x p b) f ∙ named ∙ ap (λ x. for_self x b) here ∙ sym e;
            visit = ap (λ x. rule_node x p) f ∙ node;
            kid_is = ap (λ x. rule_kid x p) f ∙ zero_kid ∙ sym none;
            reads = λ o h. subst (λ x. Contains (equation_reads g t x p b) (seen_from p o)) (sym f) (reads_from s same o h);
            over = over;
          }

      by_sort : (s : Sort) → g.sort b ≡ s → IsOwnSort (g.sort b) → Reader
      by_sort input f sort = absurd (⊎_elim (λ h. no_input (sym f ∙ h)) (λ h. no_input2 (sym f ∙ h)) sort)
        where
          no_input : input ≡ synthesized → ⊥
          no_input h = let z : ⊥ = grind (arith, h) in z

          no_input2 : input ≡ local → ⊥
          no_input2 h = let z : ⊥ = grind (arith, h) in z
      by_sort inherited f sort = absurd (⊎_elim (λ h. no_input (sym f ∙ h)) (λ h. no_input2 (sym f ∙ h)) sort)
        where
          no_input : inherited ≡ synthesized → ⊥
          no_input h = let z : ⊥ = grind (arith, h) in z

          no_input2 : inherited ≡ local → ⊥
          no_input2 h = let z : ⊥ = grind (arith, h) in z
      by_sort synthesized f sort =
          with_sort synthesized f (λ h. (let z : ⊥ = grind (arith, h) in z)) refl refl refl refl
      by_sort local f sort = with_sort local f (λ h. (let z : ⊥ = grind (arith, h) in z)) refl refl refl refl

  child_reader : (k c b : ℕ) → pair.reader ≡ for_child k c b → Reader
  child_reader k c b e =
      record {
        r = instance_of (down c n p) b;
        step = (
          kid_instance g law t fits c n b p there (kid_counted c n (below_of (at t p)) kid_here)
              (subst (λ x. OfChild g x c b) (sym here) rule.2),
          (λ h. no_input (sym rule.3 ∙ h)),
        );
        name =
            ap (λ s. rule_name t s (down c n p) b) rule.3 ∙ ap (λ x. for_child x c b) here ∙ sym e;
        visit = ap (λ s. rule_node s (down c n p)) rule.3;
        kid_is = ap (λ s. rule_kid s (down c n p)) rule.3;
        reads = λ o h.
            subst (λ s. Contains (equation_reads g t s (down c n p) b) (seen_from p o)) (sym rule.3)
            (map_has (seen_from p) (read_occurrences (g.child_rule (class_at t p) c b).parts (kids_at t p) n) o
            (subst (λ x. Contains (read_occurrences (g.child_rule x c b).parts (kids_at t p) n) o) (sym here)
            (subst (λ w. Contains (read_occurrences (rule_named g w).parts (kids_at t p) n) o) e h)));
        over = λ d h.
            subst (λ w. d < g.child_count (class_of_rule w)) (sym e)
            (child_over g k c (g.child_rule k c b).parts pair.part (law.child_parts k c b rule) d
            (subst (λ w. goes_over (rule_named g w).parts pair.part d ≡ true) e h));
      }
    where
      n : ℕ
      n = number pair.part

      rule : IsRule g (for_child k c b)
      rule = subst (IsRule g) e is.0.0

      here : class_at t p ≡ k
      here = class ∙ ap class_of_rule e

      kid_here : Has t (down c (number pair.part) p)
      kid_here =
          own_there c (subst (λ w. c < g.child_count (class_of_rule w)) (sym e) rule.1)
          (ap (λ w. is_for w c) e ∙ eq-eqb c c refl)

      no_input : inherited ≡ input → ⊥
      no_input h = let z : ⊥ = grind (arith, h) in z

  pub reader_shows : (r w : Instance) × Shows g t pair r w
  reader_shows = by_reader pair.reader refl
    where
      by_reader : (w : RuleName) → pair.reader ≡ w → (r w : Instance) × Shows g t pair r w
      by_reader (for_self k b) e = shown_by (self_reader k b e) (self_found k b e)
      by_reader (for_child k c b) e = shown_by (child_reader k c b e) (child_found k c b e)
