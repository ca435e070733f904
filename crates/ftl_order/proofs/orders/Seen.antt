-- What a rule reads as an occurrence, as a read of one of its parts that sees it.
use Rattle.std.proofs.Common.{◌≡◌, ℕ, zero, suc, ◌-◌, ◌<◌, sym, ap, subst, ⊎_elim, arith, [], ◌∷◌, flat_map, Contains, ◌∙◌}
use Rattle.std.specs.List.{range_with_len}
use Rattle.std.proofs.lemmas.List.Elements.{Contains-append_cases}
use Rattle.ftl_model.proofs.lists.Elements.{in_cases, in_flat_map, in_range_from, nothing_in}
use Rattle.ftl_model.specs.layout.AttributeGrammar.{AttributeGrammar, Occurrence, Part, Parts, Read, each_read, first_part, first_then, fold_over, from_part, kid, kid_before, last_read, occurrences, own, plain, plain_part, prev_read, read_occurrences, reads_in, seen_by, self_read, single_read, then_part, this_read, with_part}
use Rattle.ftl_order.specs.orders.Lawful.{IsListChild, IsSingle, MayReadForChild, MayReadForSelf, MayReadInStep, MayReadLater, OfChild, OfClass, PartsForChild, PartsForSelf}
use Rattle.ftl_order.proofs.orders.Rows.{turn}

-- the occurrences that a read is of, where there are so many kids in each child and the rule is for this kid; `this` in a
-- fold is of each kid
abbrev pub Sees : (ℕ → ℕ) → ℕ → Read → Occurrence → Type 0
Sees kids k (self_read a) o = o ≡ own a
Sees kids k (single_read c a) o = o ≡ kid c 0 a
Sees kids k (each_read c a) o = (n : ℕ) × (n < kids c) × (o ≡ kid c n a)
Sees kids k (this_read c a) o = o ≡ kid c k a
Sees kids k (prev_read c a) o = (0 < k) × (o ≡ kid c (k - 1) a)
Sees kids k (last_read c a) o = (0 < kids c) × (o ≡ kid c (kids c - 1) a)

-- the reads of some part of a rule for the node itself
abbrev pub MaySeeForSelf : AttributeGrammar → ℕ → Read → Type 0
MaySeeForSelf g class (self_read a) = OfClass g class a
MaySeeForSelf g class (single_read c a) = IsSingle g class c × OfChild g class c a
MaySeeForSelf g class (each_read c a) = IsListChild g class c × OfChild g class c a
MaySeeForSelf g class (this_read c a) = ⊥
MaySeeForSelf g class (prev_read c a) = ⊥
MaySeeForSelf g class (last_read c a) = IsListChild g class c × OfChild g class c a

one_in : {X : Type 0} (x y : X) → Contains (x ∷ []) y → y ≡ x
one_in x y h = ⊎_elim (λ same. sym same) (λ none. absurd (nothing_in y none)) (in_cases x y [] h)

before_seen : (c a k : ℕ) (o : Occurrence) → Contains (kid_before c a k) o → (0 < k) × (o ≡ kid c (k - 1) a)
before_seen c a zero o h = absurd (nothing_in o h)
before_seen c a (suc k) o h = (
  (let z : 0 < suc k = omega arith in z),
  one_in (kid c k a) o h ∙ ap (λ n. kid c n a) (let z : k ≡ suc k - 1 = omega arith in z),
)

-- a read of a part of a rule that sees an occurrence
pub record Seen (parts : Parts) (kids : ℕ → ℕ) (k : ℕ) (May : Read → Type 0) (o : Occurrence) : Type 0 where
  pub part : Part
  pub read : Read
  pub in_part : Contains (reads_in parts part) read
  pub may : May read
  pub sees : Sees kids k read o

module _ (g : AttributeGrammar) (class : ℕ) (kids : ℕ → ℕ) where
  self_seen_by : (k : ℕ) (r : Read) (o : Occurrence) → MayReadForSelf g class r → Contains (occurrences kids k r) o
      → MaySeeForSelf g class r × Sees kids 0 r o
  self_seen_by k (self_read a) o may h = (may, one_in (own a) o h)
  self_seen_by k (single_read c a) o may h = (may, one_in (kid c 0 a) o h)
  self_seen_by k (each_read c a) o may h = absurd may
  self_seen_by k (this_read c a) o may h = absurd may
  self_seen_by k (prev_read c a) o may h = absurd may
  self_seen_by k (last_read c a) o may h = (may, before_seen c a (kids c) o h)

  step_seen_by : (c k : ℕ) → IsListChild g class c → k < kids c → (r : Read) (o : Occurrence)
      → MayReadInStep g class c r → Contains (occurrences kids k r) o → MaySeeForSelf g class r × Sees kids 0 r o
  step_seen_by c k list below (self_read a) o may h = self_seen_by k (self_read a) o may h
  step_seen_by c k list below (single_read d a) o may h = self_seen_by k (single_read d a) o may h
  step_seen_by c k list below (each_read d a) o may h =
      subst (λ x. (IsListChild g class x × OfChild g class x a) × Sees kids 0 (each_read x a) o) (sym may.0) (
        (list, may.1),
        (k, below, one_in (kid c k a) o (subst (λ x. Contains (occurrences kids k (each_read x a)) o) may.0 h)),
      )
  step_seen_by c k list below (this_read d a) o may h = absurd may
  step_seen_by c k list below (prev_read d a) o may h = absurd may
  step_seen_by c k list below (last_read d a) o may h = self_seen_by k (last_read d a) o may h

  abbrev SeenForSelf : Parts → Occurrence → Type 0
  SeenForSelf parts o = Seen parts kids 0 (MaySeeForSelf g class) o

  -- what a rule for the node itself reads
  pub self_seen : (parts : Parts) → PartsForSelf g class parts → (o : Occurrence)
      → Contains (read_occurrences parts kids 0) o → SeenForSelf parts o
  self_seen (plain reads) may o h =
      let i = in_flat_map (occurrences kids 0) reads o h in
      let s = self_seen_by 0 i.0 o (may i.0 i.1) i.2 in
      record { part = plain_part; read = i.0; in_part = i.1; may = s.0; sees = s.1 }
  self_seen (first_then first later) may o h = absurd may
  self_seen (fold_over c start step) may o h =
      ⊎_elim
      (λ front.
      let i = in_flat_map (occurrences kids 0) start o front in
      let s = self_seen_by 0 i.0 o (may.1 i.0 i.1) i.2 in
      record { part = from_part; read = i.0; in_part = i.1; may = s.0; sees = s.1 })
      (λ back.
      let turn = in_flat_map (λ n. seen_by kids n step) (range_with_len 0 (kids c)) o back in
      let below : turn.0 < kids c = (let z = in_range_from 0 (kids c) turn.0 turn.1 in let b = z.1 in omega (arith, b)) in
      let i = in_flat_map (occurrences kids turn.0) step o turn.2 in
      let s = step_seen_by c turn.0 may.0 below i.0 o (may.2 i.0 i.1) i.2 in
      record { part = with_part; read = i.0; in_part = i.1; may = s.0; sees = s.1 })
      (Contains-append_cases (seen_by kids 0 start)
      (flat_map (λ n. seen_by kids n step) (range_with_len 0 (kids c))) o h)

  module _ (c k : ℕ) where
    later_seen_by : (r : Read) (o : Occurrence) → MayReadLater g class c r → Contains (occurrences kids k r) o
        → Sees kids k r o
    later_seen_by (self_read a) o may h = one_in (own a) o h
    later_seen_by (single_read d a) o may h = one_in (kid d 0 a) o h
    later_seen_by (each_read d a) o may h = absurd may
    later_seen_by (this_read d a) o may h = one_in (kid d k a) o h
    later_seen_by (prev_read d a) o may h = before_seen d a k o h
    later_seen_by (last_read d a) o may h = before_seen d a (kids d) o h

    may_later : (r : Read) → MayReadForChild g class c r → MayReadLater g class c r
    may_later (self_read a) may = may
    may_later (single_read d a) may = may
    may_later (each_read d a) may = absurd may
    may_later (this_read d a) may = may
    may_later (prev_read d a) may = absurd may
    may_later (last_read d a) may = may

    seen_in : (parts : Parts) (part : Part) (o : Occurrence)
        → ((r : Read) → Contains (reads_in parts part) r → MayReadLater g class c r)
        → Contains (seen_by kids k (reads_in parts part)) o → Seen parts kids k (MayReadLater g class c) o
    seen_in parts part o may h =
        let i = in_flat_map (occurrences kids k) (reads_in parts part) o h in
        record {
          part = part;
          read = i.0;
          in_part = i.1;
          may = may i.0 i.1;
          sees = later_seen_by i.0 o (may i.0 i.1) i.2;
        }

  -- what a rule for a kid reads
  pub child_seen : (c k : ℕ) (parts : Parts) → PartsForChild g class c parts → (o : Occurrence)
      → Contains (read_occurrences parts kids k) o → Seen parts kids k (MayReadLater g class c) o
  child_seen c k (plain reads) may o h =
      seen_in c k (plain reads) plain_part o (λ r in_it. may_later c k r (may r in_it)) h
  child_seen c zero (first_then first later) may o h =
      seen_in c 0 (first_then first later) first_part o (λ r in_it. may_later c 0 r (may.1 r in_it)) h
  child_seen c (suc k) (first_then first later) may o h =
      seen_in c (suc k) (first_then first later) then_part o (λ r in_it. may.2 r in_it) h
  child_seen c k (fold_over d start step) may o h = absurd may
