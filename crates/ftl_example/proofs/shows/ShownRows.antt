-- Where the writer of a shown read must precede the reader, the pair is ordered.
use Rattle.std.proofs.Common.{◌≡◌, ◌≢◌, ◌⊎◌, ℕ, zero, suc, ◌-◌, ◌<◌, ◌≤◌, Bool, true, false, IsTrue, refl, sym, ◌∙◌, ap, subst, inl, inr, ⊎_elim, arith, List, [], ◌∷◌, Contains, eq-eqb}
use Rattle.ftl_model.specs.lists.Lists.{Before}
use Rattle.ftl_model.proofs.lists.Elements.{nothing_in}
use Rattle.ftl_model.specs.layout.Tree.{Forest, below_of}
use Rattle.ftl_model.specs.layout.Path.{Path, top, down, at as at_path, Above, Has, class_at, kids_at}
use Rattle.ftl_model.specs.layout.AttributeGrammar.{AttributeGrammar, Part, Parts, Read, self_read, single_read, each_read, this_read, prev_read, last_read, Occurrence, own, kid, Sort, input, inherited, synthesized, local, occurrences, plain, first_then, fold_over, plain_part, first_part, then_part, from_part, with_part, reads_in, RuleName, for_self}
use Rattle.ftl_model.specs.layout.TreeOf.{IsTreeOf}
use Rattle.ftl_model.specs.layout.Solves.{Instance, seen_from, rule_name, rule_named, rule_node, rule_kid}
use Rattle.ftl_model.proofs.layout.Standing.{has_parent}
use Rattle.ftl_model.proofs.layout.Fits.{fits_at, kid_stands}
use Rattle.ftl_order.specs.orders.Lawful.{IsLawful, OfClass, IsOwnSort, MayReadForChild, MayReadLater, PartsForChild, PartsForSelf, class_of_rule}
use Rattle.ftl_order.specs.orders.Schedule.{PassKind, topdown, bottomup, inorder, Placing}
use Rattle.ftl_order.specs.orders.Pairs.{Where, same_class, parent_class, child_class, Writes, WritesOwn, WritesKid, is_by_prev, child_read, Pair, IsPair}
use Rattle.ftl_order.specs.orders.Ordered.{block_of, VisitPlace, visit_place, IsSameBlock, IsSameRule, SameClassRow, ParentRow, ChildRow, Row, IsOrderedRead, IsOrderedPair}
use Rattle.ftl_order.specs.orders.LegalOrder.{turn_by, turn_of, way_to, FirstInPass, TurnPrecedes, PrecedesBy}
use Rattle.ftl_order.proofs.orders.Kids.{kid_counted}
use Rattle.ftl_order.proofs.orders.Rows.{turn}
use Rattle.ftl_order.proofs.orders.Seen.{MaySeeForSelf, Sees}
use Rattle.ftl_order.proofs.orders.TreeEquations.{kid_rule, own_rule, root_inherits_nothing}
use Rattle.ftl_example.specs.shows.Shows.{Shows, ReadIs, at_hand}
use Rattle.ftl_example.specs.sizes.Place.{goes_over}
use Rattle.ftl_example.proofs.shows.PlaceShows.{child_may, self_may}
use Rattle.ftl_example.proofs.shows.ReadFacts.{before_seen, one_in}
use Rattle.ftl_example.proofs.shows.ShownPlace.{over_hand}

above_chain : (p q r : Path) → Above p q → Above q r → Above p r
above_chain p q top h k = absurd k
above_chain p q (down c n r) h k =
    ⊎_elim (λ same. inr (subst (Above p) same h)) (λ higher. inr (above_chain p q r h higher)) k

never_less : {n : ℕ} → n < n → ⊥
never_less h = omega (arith, h)

-- what stands behind one way compares as the whole
before_way : (p : Path) (xs ys : List ℕ) → Before (way_to p xs) (way_to p ys) → Before xs ys
before_way top xs ys h = h
before_way (down c k p) xs ys h =
    ⊎_elim (λ l. absurd (never_less l))
    (λ h. ⊎_elim (λ l. absurd (never_less l))
    (λ h. ⊎_elim (λ l. absurd (never_less l))
    (λ h. ⊎_elim (λ l. absurd (never_less l)) (λ h. h.1) h.1) h.1) h.1)
    (before_way p (1 ∷ (c ∷ (k ∷ (1 ∷ xs)))) (1 ∷ (c ∷ (k ∷ (1 ∷ ys)))) h)

not_above : (p : Path) → Above p p → ⊥
not_above top h = h
not_above (down c k p) h = ⊎_elim (λ same. not_above p (subst (λ q. Above p q) same (inl refl))) (λ up. not_above p (above_chain p (down c k p) p (inl refl) up)) h

not_below : (c k : ℕ) (p : Path) → (down c k p ≡ p) → ⊥
not_below c k p e = not_above p (subst (Above p) e (inl refl))

-- x and y run in one visit; a kid that comes before is of the same rule by `prev` alone
same_visit_row : (kind : PassKind) (at : Placing) (by_prev : Bool) (p : Path) (x y : VisitPlace) (kx ky : ℕ)
    → (kx < ky → IsSameRule x y ⊎ IsSameBlock x y → IsTrue by_prev)
    → FirstInPass kind at (turn p x kx) (turn p y ky) → SameClassRow kind at by_prev x y
same_visit_row topdown at by_prev p x y kx ky prev h =
    ⊎_elim (λ here. ⊎_elim (λ key. inl key) (λ same. inr (prev same.1 (inl same.0), same.0)) here.1)
    (λ up. absurd (not_above p up)) h
same_visit_row bottomup at by_prev p x y kx ky prev h =
    ⊎_elim (λ here. ⊎_elim (λ key. inl key) (λ same. inr (prev same.1 (inl same.0), same.0)) here.1)
    (λ up. absurd (not_above p up)) h
same_visit_row inorder at by_prev p x y kx ky prev h =
    ⊎_elim (λ block. inl (inl block))
    (λ b. ⊎_elim (λ child. inl (inr (b.0, child)))
    (λ c. ⊎_elim (λ kid. inr ((b.0, c.0), inr (prev kid (inr (b.0, c.0)))))
    (λ k. ⊎_elim (λ l. absurd (never_less l))
    (λ z. ⊎_elim (λ index. inr ((b.0, c.0), inl (inl index))) (λ none. absurd none.1) z.1) k.1) c.1) b.1)
    (before_way p (x.block ∷ (x.child ∷ (kx ∷ (0 ∷ ((at x.attribute).index ∷ [])))))
    (y.block ∷ (y.child ∷ (ky ∷ (0 ∷ ((at y.attribute).index ∷ []))))) h)

parent_row : (kind : PassKind) (at : Placing) (q : Path) (c k : ℕ) (x y : VisitPlace) (kx ky : ℕ)
    → FirstInPass kind at (turn q x kx) (turn (down c k q) y ky) → ParentRow kind
parent_row topdown at q c k x y kx ky h = tt
parent_row bottomup at q c k x y kx ky h =
    ⊎_elim (λ here. not_below c k q (sym here.0)) (λ up. not_above q (above_chain q (down c k q) q (inl refl) up)) h
parent_row inorder at q c k x y kx ky h = tt

child_row : (kind : PassKind) (at : Placing) (by_prev : Bool) (p : Path) (d n : ℕ) (x y : VisitPlace) (kx ky : ℕ)
    → y.block ≤ 2 → (n < ky → d ≡ y.child → IsTrue by_prev)
    → FirstInPass kind at (turn (down d n p) x kx) (turn p y ky) → ChildRow kind by_prev d y
child_row topdown at by_prev p d n x y kx ky low prev h =
    ⊎_elim (λ here. not_below d n p here.0) (λ up. not_above p (above_chain p (down d n p) p (inl refl) up)) h
child_row bottomup at by_prev p d n x y kx ky low prev h = tt
child_row inorder at by_prev p d n x y kx ky low prev h =
    ⊎_elim (λ block. inl (let z : y.block ≡ 2 = omega (arith, low, block) in z))
    (λ b. ⊎_elim (λ child. inr (sym b.0, inl child))
    (λ c. ⊎_elim (λ kid. inr (sym b.0, inr (prev kid c.0)))
    (λ k. ⊎_elim (λ l. absurd (let z : ⊥ = omega (arith, l) in z)) (λ z. absurd (let e = z.0 in let z : ⊥ = omega (arith, e) in z)) k.1)
    c.1) b.1)
    (before_way p (1 ∷ (d ∷ (n ∷ (1 ∷ (x.block ∷ (x.child ∷ (kx ∷ (0 ∷ ((at x.attribute).index ∷ [])))))))))
    (y.block ∷ (y.child ∷ (ky ∷ (0 ∷ ((at y.attribute).index ∷ []))))) h)

drop_row : (at : Placing) (runs_at : Where) (r : Read) (x y : VisitPlace) (px py : Path) (kx ky : ℕ)
    → (FirstInPass (at y.attribute).kind at (turn px x kx) (turn py y ky) → Row runs_at (at y.attribute).kind at r x y)
    → TurnPrecedes at (turn px x kx) (turn py y ky) → IsOrderedRead at runs_at r x y
drop_row at runs_at r x y px py kx ky row h = ⊎_elim (λ stage. inl stage) (λ here. inr (here.0, row here.1)) h

module _ (g : AttributeGrammar) (at : Placing) where
  own_row : (sort : Sort) (p : Path) (class a : ℕ) → g.sort a ≡ sort → (y : VisitPlace) (ky : ℕ)
      → (0 < ky → (y.block ≡ 1) × (g.sort y.attribute ≡ inherited)) → (p ≡ top → sort ≢ inherited)
      → (runs_at : Where) (w : RuleName) → WritesOwn g sort class a runs_at w
      → TurnPrecedes at (turn_by sort p a) (turn p y ky) → IsOrderedRead at runs_at (self_read a) (visit_place g w) y
  own_row input p class a e y ky later not_top runs_at w writes h = absurd writes
  own_row inherited top class a e y ky later not_top runs_at w writes h = absurd (not_top refl refl)
  own_row inherited (down c k q) class a e y ky later not_top runs_at w writes h =
      subst (λ pl. IsOrderedRead at pl (self_read a) (visit_place g w) y) (sym writes.5)
      (subst (λ n. IsOrderedRead at parent_class (self_read a) (visit_place g n) y) (sym writes.6)
      (⊎_elim (λ stage. inl stage)
      (λ here. inr (here.0, parent_row (at y.attribute).kind at q c k (record { attribute = a; block = 1; child = c }) y k ky here.1)) h))
  own_row synthesized p class a e y ky later not_top runs_at w writes h =
      let x : VisitPlace = record { attribute = a; block = 2; child = 0 } in
      subst (λ pl. IsOrderedRead at pl (self_read a) (visit_place g w) y) (sym writes.0)
      (subst (λ n. IsOrderedRead at same_class (self_read a) (visit_place g n) y) (sym writes.1)
      (subst (λ s. IsOrderedRead at same_class (self_read a) (record { attribute = a; block = block_of s; child = 0 }) y) (sym e)
      (drop_row at same_class (self_read a) x y p p 0 ky
      (same_visit_row (at y.attribute).kind at false p x y 0 ky
      (λ less same. absurd (not_later synthesized e less (λ s. let z : ⊥ = grind arith in z) (λ b. let z : ⊥ = omega (arith, b) in z) same))) h)))
    where
      not_later : (s : Sort) → g.sort a ≡ s → 0 < ky → (s ≡ inherited → ⊥) → (block_of s ≡ 1 → ⊥)
          → IsSameRule (record { attribute = a; block = block_of s; child = 0 }) y
          ⊎ IsSameBlock (record { attribute = a; block = block_of s; child = 0 }) y → ⊥
      not_later s e less no_sort no_block same =
          let l = later less in
          ⊎_elim (λ rule. no_sort (sym e ∙ ap g.sort rule.0 ∙ l.1)) (λ block. no_block (block.0 ∙ l.0)) same
  own_row local p class a e y ky later not_top runs_at w writes h =
      let x : VisitPlace = record { attribute = a; block = 0; child = 0 } in
      subst (λ pl. IsOrderedRead at pl (self_read a) (visit_place g w) y) (sym writes.0)
      (subst (λ n. IsOrderedRead at same_class (self_read a) (visit_place g n) y) (sym writes.1)
      (subst (λ s. IsOrderedRead at same_class (self_read a) (record { attribute = a; block = block_of s; child = 0 }) y) (sym e)
      (drop_row at same_class (self_read a) x y p p 0 ky
      (same_visit_row (at y.attribute).kind at false p x y 0 ky
      (λ less same. absurd (not_later local e less (λ s. let z : ⊥ = grind arith in z) (λ b. let z : ⊥ = omega (arith, b) in z) same))) h)))
    where
      not_later : (s : Sort) → g.sort a ≡ s → 0 < ky → (s ≡ inherited → ⊥) → (block_of s ≡ 1 → ⊥)
          → IsSameRule (record { attribute = a; block = block_of s; child = 0 }) y
          ⊎ IsSameBlock (record { attribute = a; block = block_of s; child = 0 }) y → ⊥
      not_later s e less no_sort no_block same =
          let l = later less in
          ⊎_elim (λ rule. no_sort (sym e ∙ ap g.sort rule.0 ∙ l.1)) (λ block. no_block (block.0 ∙ l.0)) same

  kid_row : (sort : Sort) (p : Path) (class d n a : ℕ) → g.sort a ≡ sort → (r : Read) → child_read r ≡ d
      → (y : VisitPlace) (ky : ℕ) → y.block ≤ 2 → (n < ky → d ≡ y.child → IsTrue (is_by_prev r))
      → (runs_at : Where) (w : RuleName) → WritesKid g sort class d a runs_at w
      → TurnPrecedes at (turn_by sort (down d n p) a) (turn p y ky) → IsOrderedRead at runs_at r (visit_place g w) y
  kid_row input p class d n a e r child y ky low prev runs_at w writes h = absurd writes
  kid_row inherited p class d n a e r child y ky low prev runs_at w writes h =
      let x : VisitPlace = record { attribute = a; block = 1; child = d } in
      subst (λ pl. IsOrderedRead at pl r (visit_place g w) y) (sym writes.0)
      (subst (λ m. IsOrderedRead at same_class r (visit_place g m) y) (sym writes.1)
      (drop_row at same_class r x y p p n ky
      (same_visit_row (at y.attribute).kind at (is_by_prev r) p x y n ky
      (λ less same. prev less (⊎_elim (λ rule. rule.1) (λ block. block.1) same))) h))
  kid_row synthesized p class d n a e r child y ky low prev runs_at w writes h =
      let x : VisitPlace = record { attribute = a; block = 2; child = 0 } in
      subst (λ pl. IsOrderedRead at pl r (visit_place g w) y) (sym writes.3)
      (subst (λ m. IsOrderedRead at child_class r (visit_place g m) y) (sym writes.4)
      (subst (λ s. IsOrderedRead at child_class r (record { attribute = a; block = block_of s; child = 0 }) y) (sym e)
      (drop_row at child_class r x y (down d n p) p 0 ky
      (λ first. subst (λ m. ChildRow (at y.attribute).kind (is_by_prev r) m y) (sym child)
      (child_row (at y.attribute).kind at (is_by_prev r) p d n x y 0 ky low prev first)) h)))
  kid_row local p class d n a e r child y ky low prev runs_at w writes h = absurd writes

  -- by the six reads
  read_row : (r : Read) (p : Path) (class : ℕ) (kids : ℕ → ℕ) (o : Occurrence) (y : VisitPlace) (ky : ℕ) → Sees kids ky r o
      → y.block ≤ 2 → (0 < ky → (y.block ≡ 1) × (g.sort y.attribute ≡ inherited))
      → (p ≡ top → (a : ℕ) → r ≡ self_read a → g.sort a ≢ inherited)
      → ((n a : ℕ) → o ≡ kid (child_read r) n a → n < ky → child_read r ≡ y.child → IsTrue (is_by_prev r))
      → (runs_at : Where) (w : RuleName) → Writes g class r runs_at w
      → TurnPrecedes at (turn_of g (seen_from p o)) (turn p y ky) → IsOrderedRead at runs_at r (visit_place g w) y
  read_row (self_read a) p class kids o y ky sees low later not_top prev runs_at w writes h =
      own_row (g.sort a) p class a refl y ky later (λ e. not_top e a refl) runs_at w writes
      (subst (λ x. TurnPrecedes at (turn_of g (seen_from p x)) (turn p y ky)) sees h)
  read_row (single_read c a) p class kids o y ky sees low later not_top prev runs_at w writes h =
      kid_row (g.sort a) p class c 0 a refl (single_read c a) refl y ky low (prev 0 a sees) runs_at w writes
      (subst (λ x. TurnPrecedes at (turn_of g (seen_from p x)) (turn p y ky)) sees h)
  read_row (each_read c a) p class kids o y ky sees low later not_top prev runs_at w writes h =
      kid_row (g.sort a) p class c sees.0 a refl (each_read c a) refl y ky low (prev sees.0 a sees.2) runs_at w writes
      (subst (λ x. TurnPrecedes at (turn_of g (seen_from p x)) (turn p y ky)) sees.2 h)
  read_row (this_read c a) p class kids o y ky sees low later not_top prev runs_at w writes h =
      kid_row (g.sort a) p class c ky a refl (this_read c a) refl y ky low (prev ky a sees) runs_at w writes
      (subst (λ x. TurnPrecedes at (turn_of g (seen_from p x)) (turn p y ky)) sees h)
  read_row (prev_read c a) p class kids o y ky sees low later not_top prev runs_at w writes h =
      kid_row (g.sort a) p class c (ky - 1) a refl (prev_read c a) refl y ky low (prev (ky - 1) a sees.1) runs_at w writes
      (subst (λ x. TurnPrecedes at (turn_of g (seen_from p x)) (turn p y ky)) sees.1 h)
  read_row (last_read c a) p class kids o y ky sees low later not_top prev runs_at w writes h =
      kid_row (g.sort a) p class c (kids c - 1) a refl (last_read c a) refl y ky low (prev (kids c - 1) a sees.1) runs_at w writes
      (subst (λ x. TurnPrecedes at (turn_of g (seen_from p x)) (turn p y ky)) sees.1 h)

abbrev number_seen : Occurrence → ℕ
number_seen (own a) = 0
number_seen (kid c k a) = k

abbrev is_kid : Occurrence → Bool
is_kid (own a) = false
is_kid (kid c k a) = true

-- the part of a rule for the kids of a child has the kid at hand that it is for
kid_hand : (g : AttributeGrammar) (class c : ℕ) (parts : Parts) (part : Part) (kids : ℕ → ℕ) (k n : ℕ)
    → PartsForChild g class c parts → Contains (at_hand parts part kids k) n → n ≡ k
kid_hand g class c (plain reads) plain_part kids k n may h = one_in k n h
kid_hand g class c (plain reads) first_part kids k n may h = absurd (nothing_in n h)
kid_hand g class c (plain reads) then_part kids k n may h = absurd (nothing_in n h)
kid_hand g class c (plain reads) from_part kids k n may h = absurd (nothing_in n h)
kid_hand g class c (plain reads) with_part kids k n may h = absurd (nothing_in n h)
kid_hand g class c (first_then first later) plain_part kids k n may h = absurd (nothing_in n h)
kid_hand g class c (first_then first later) first_part kids zero n may h = one_in 0 n h
kid_hand g class c (first_then first later) first_part kids (suc k) n may h = absurd (nothing_in n h)
kid_hand g class c (first_then first later) then_part kids zero n may h = absurd (nothing_in n h)
kid_hand g class c (first_then first later) then_part kids (suc k) n may h = one_in (suc k) n h
kid_hand g class c (first_then first later) from_part kids k n may h = absurd (nothing_in n h)
kid_hand g class c (first_then first later) with_part kids k n may h = absurd (nothing_in n h)
kid_hand g class c (fold_over d start step) part kids k n may h = absurd may

-- where a fold reads its kid, it goes over it
each_over : (g : AttributeGrammar) (class : ℕ) (parts : Parts) (part : Part) (d a : ℕ) → PartsForSelf g class parts
    → Contains (reads_in parts part) (each_read d a) → goes_over parts part d ≡ true
each_over g class (plain reads) plain_part d a may h = absurd (may (each_read d a) h)
each_over g class (plain reads) first_part d a may h = absurd (nothing_in (each_read d a) h)
each_over g class (plain reads) then_part d a may h = absurd (nothing_in (each_read d a) h)
each_over g class (plain reads) from_part d a may h = absurd (nothing_in (each_read d a) h)
each_over g class (plain reads) with_part d a may h = absurd (nothing_in (each_read d a) h)
each_over g class (first_then first later) part d a may h = absurd may
each_over g class (fold_over c start step) plain_part d a may h = absurd (nothing_in (each_read d a) h)
each_over g class (fold_over c start step) first_part d a may h = absurd (nothing_in (each_read d a) h)
each_over g class (fold_over c start step) then_part d a may h = absurd (nothing_in (each_read d a) h)
each_over g class (fold_over c start step) from_part d a may h = absurd (may.1 (each_read d a) h)
each_over g class (fold_over c start step) with_part d a may h = eq-eqb c d (sym (may.2 (each_read d a) h).0)

-- what a read sees of a rule for the node itself
self_sees : (g : AttributeGrammar) (class : ℕ) (kids : ℕ → ℕ) (n : ℕ) (r : Read) → MaySeeForSelf g class r → (o : Occurrence)
    → ((d a : ℕ) → r ≡ each_read d a → n < kids d) → Contains (occurrences kids n r) o → Sees kids 0 r o
self_sees g class kids n (self_read a) may o each h = one_in (own a) o h
self_sees g class kids n (single_read d a) may o each h = one_in (kid d 0 a) o h
self_sees g class kids n (each_read d a) may o each h = (n, each d a refl, one_in (kid d n a) o h)
self_sees g class kids n (this_read d a) may o each h = absurd may
self_sees g class kids n (prev_read d a) may o each h = absurd may
self_sees g class kids n (last_read d a) may o each h = before_seen d a (kids d) o h

-- and for a kid
kid_sees : (g : AttributeGrammar) (class c : ℕ) (kids : ℕ → ℕ) (k : ℕ) (r : Read) → MayReadLater g class c r
    → (o : Occurrence) → Contains (occurrences kids k r) o → Sees kids k r o
kid_sees g class c kids k (self_read a) may o h = one_in (own a) o h
kid_sees g class c kids k (single_read d a) may o h = one_in (kid d 0 a) o h
kid_sees g class c kids k (each_read d a) may o h = absurd may
kid_sees g class c kids k (this_read d a) may o h = one_in (kid d k a) o h
kid_sees g class c kids k (prev_read d a) may o h = before_seen d a k o h
kid_sees g class c kids k (last_read d a) may o h = before_seen d a (kids d) o h

may_later : (g : AttributeGrammar) (class c : ℕ) (r : Read) → MayReadForChild g class c r → MayReadLater g class c r
may_later g class c (self_read a) may = may
may_later g class c (single_read d a) may = may
may_later g class c (each_read d a) may = absurd may
may_later g class c (this_read d a) may = may
may_later g class c (prev_read d a) may = absurd may
may_later g class c (last_read d a) may = may

module _ (g : AttributeGrammar) (law : IsLawful g) (at : Placing) (t : Forest) (fits : IsTreeOf g t) where
  -- an earlier kid of the child that the rule is for is read by `prev` alone
  earlier_kid : (class c k : ℕ) → (g.is_list class c ≡ false → k ≡ 0) → (kids : ℕ → ℕ) (r : Read)
      → MayReadLater g class c r → (o : Occurrence) → Sees kids k r o
      → (n a : ℕ) → o ≡ kid (child_read r) n a → n < k → child_read r ≡ c → IsTrue (is_by_prev r)
  earlier_kid class c k alone kids (self_read b) may o sees n a e less same =
      absurd (let f : false ≡ true = ap is_kid (sym sees ∙ e) in let z : ⊥ = grind arith in z)
  earlier_kid class c k alone kids (single_read d b) may o sees n a e less same =
      absurd (let z = alone (subst (λ d. g.is_list class d ≡ false) same may.0.1) in omega (arith, less, z))
  earlier_kid class c k alone kids (each_read d b) may o sees n a e less same = absurd may
  earlier_kid class c k alone kids (this_read d b) may o sees n a e less same =
      absurd (let f : k ≡ n = ap number_seen (sym sees ∙ e) in omega (arith, f, less))
  earlier_kid class c k alone kids (prev_read d b) may o sees n a e less same = refl
  earlier_kid class c k alone kids (last_read d b) may o sees n a e less same =
      absurd
      (let list : g.is_list class c ≡ true = subst (λ d. g.is_list class d ≡ true) same may.1.1 in
      let single : g.is_list class c ≡ false = may.0.1 in
      let z : ⊥ = grind arith in z)

  not_at_top : (p : Path) → Has t p → (a : ℕ) → OfClass g (class_at t p) a → p ≡ top → g.sort a ≢ inherited
  not_at_top top h a of e inh = root_inherits_nothing g law t fits a h of inh
  not_at_top (down c k p) h a of e inh = let z : ⊥ = grind arith in z

  module _ (pair : Pair) (is : IsPair g pair) where
    own_pair : (p : Path) (b : ℕ) → IsOwnSort (g.sort b) → block_of (g.sort b) ≤ 2 → Has t p → OfClass g (class_at t p) b
        → for_self (class_at t p) b ≡ pair.reader → (w : Instance)
        → ReadIs t (rule_named g pair.reader).parts pair.part p 0 pair.read w
        → TurnPrecedes at (turn_of g w) (turn p (record { attribute = b; block = block_of (g.sort b); child = 0 }) 0)
        → IsOrderedPair g at pair
    own_pair p b sort low h of e w (n, hand, (o, seen, w_is)) first =
        let parts = (g.self_rule (class_at t p) b).parts in
        let for_it = law.self_parts (class_at t p) b (own_rule g t fits p b h of sort) in
        let in_part : Contains (reads_in parts pair.part) pair.read =
        subst (λ x. Contains (reads_in (rule_named g x).parts pair.part) pair.read) (sym e) is.0.1 in
        let hand_it : Contains (at_hand parts pair.part (kids_at t p) 0) n =
        subst (λ x. Contains (at_hand (rule_named g x).parts pair.part (kids_at t p) 0) n) (sym e) hand in
        let may = (self_may g (class_at t p) parts pair.part pair.read for_it in_part).1 in
        let sees = self_sees g (class_at t p) (kids_at t p) n pair.read may o
        (λ d a f. over_hand parts pair.part (kids_at t p) 0 n d
        (each_over g (class_at t p) parts pair.part d a for_it (subst (λ r. Contains (reads_in parts pair.part) r) f in_part)) hand_it)
        seen in
        subst (λ n. IsOrderedRead at pair.runs_at pair.read (visit_place g pair.writer) (visit_place g n)) e
        (read_row g at pair.read p (class_of_rule pair.reader) (kids_at t p) o
        (record { attribute = b; block = block_of (g.sort b); child = 0 }) 0 sees low
        (λ less. absurd (let z : ⊥ = omega (arith, less) in z))
        (λ is_top a self. not_at_top p h a (subst (MaySeeForSelf g (class_at t p)) self may) is_top)
        (λ n a seen less same. absurd (let z : ⊥ = omega (arith, less) in z))
        pair.runs_at pair.writer is.1
        (subst (λ j. TurnPrecedes at (turn_of g j) (turn p (record { attribute = b; block = block_of (g.sort b); child = 0 }) 0)) w_is first))

    pair_by : (sort : Sort) (p : Path) (b : ℕ) → g.sort b ≡ sort → sort ≢ input → Has t p → OfClass g (class_at t p) b
        → rule_name t sort p b ≡ pair.reader → (w : Instance)
        → ReadIs t (rule_named g pair.reader).parts pair.part (rule_node sort p) (rule_kid sort p) pair.read w
        → TurnPrecedes at (turn_of g w) (turn_by sort p b) → IsOrderedPair g at pair
    pair_by input p b e computed h of name w read first = absurd (computed refl)
    pair_by inherited top b e computed h of name w read first = absurd (root_inherits_nothing g law t fits b h of e)
    pair_by inherited (down c k p) b e computed h of name w (n, hand, (o, seen, w_is)) first =
        let up = has_parent t c k p h in
        let stands = kid_stands g t c k p fits h in
        let parts = (g.child_rule (class_at t p) c b).parts in
        let for_it = law.child_parts (class_at t p) c b (kid_rule g law t fits c k p b h of e) in
        let in_part : Contains (reads_in parts pair.part) pair.read =
        subst (λ x. Contains (reads_in (rule_named g x).parts pair.part) pair.read) (sym name) is.0.1 in
        let hand_it : Contains (at_hand parts pair.part (kids_at t p) k) n =
        subst (λ x. Contains (at_hand (rule_named g x).parts pair.part (kids_at t p) k) n) (sym name) hand in
        let may : MayReadLater g (class_at t p) c pair.read =
        ⊎_elim (λ l. l.2) (λ l. may_later g (class_at t p) c pair.read l.1)
        (child_may g (class_at t p) c parts pair.part pair.read for_it in_part) in
        let same = kid_hand g (class_at t p) c parts pair.part (kids_at t p) k n for_it hand_it in
        let sees = kid_sees g (class_at t p) c (kids_at t p) k pair.read may o
        (subst (λ x. Contains (occurrences (kids_at t p) x pair.read) o) same seen) in
        subst (λ n. IsOrderedRead at pair.runs_at pair.read (visit_place g pair.writer) (visit_place g n)) name
        (read_row g at pair.read p (class_of_rule pair.reader) (kids_at t p) o
        (record { attribute = b; block = 1; child = c }) k sees (omega arith)
        (λ less. (refl, e))
        (λ is_top a self. not_at_top p up a (subst (MayReadLater g (class_at t p) c) self may) is_top)
        (λ n a seen less same.
        earlier_kid (class_at t p) c k
        (λ single.
        let one = (fits_at g t p fits up).class.singles c stands.declared single in
        let counted = kid_counted c k (below_of (at_path t p)) h in
        let z : k ≡ 0 = omega (arith, one, counted) in z)
        (kids_at t p) pair.read may o sees n a seen less same)
        pair.runs_at pair.writer is.1
        (subst (λ j. TurnPrecedes at (turn_of g j) (turn p (record { attribute = b; block = 1; child = c }) k)) w_is first))
    pair_by synthesized p b e computed h of name w read first =
        own_pair p b (inl e) (subst (λ s. block_of s ≤ 2) (sym e) (omega arith)) h of name w read
        (subst (λ s. TurnPrecedes at (turn_of g w) (turn p (record { attribute = b; block = block_of s; child = 0 }) 0)) (sym e) first)
    pair_by local p b e computed h of name w read first =
        own_pair p b (inr e) (subst (λ s. block_of s ≤ 2) (sym e) (omega arith)) h of name w read
        (subst (λ s. TurnPrecedes at (turn_of g w) (turn p (record { attribute = b; block = block_of s; child = 0 }) 0)) (sym e) first)

  -- where the writer of a shown read must precede the reader, the pair is ordered
  pub shown_ordered : (pair : Pair) (r w : Instance) → IsPair g pair → Shows g t pair r w → PrecedesBy g at w r
      → IsOrderedPair g at pair
  shown_ordered pair r w is shows first =
      pair_by pair is (g.sort r.attribute) r.node r.attribute refl shows.reader_there.1 shows.reader_there.0.0
      shows.reader_there.0.1 shows.reader w shows.read first
