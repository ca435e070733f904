-- The rules that write what is read are those of the pairs.
use Rattle.std.proofs.Common.{◌≡◌, ◌≢◌, inl, inr, ℕ, ◌<◌, ◌==◌, ◌&&◌, true, false, refl, sym, ◌∙◌, ap, ap₂, subst, ⊎_elim, arith, eqb-true, eq-eqb, get_or, Contains, Some, None}
use Rattle.std.proofs.lemmas.Bool.{and_from, and_parts, both_ways, false≢true}
use Rattle.std.proofs.lemmas.Option.{get_or_from_slice_get, slice_get-get_or}
use Rattle.std.proofs.lemmas.List.Elements.{Contains-append_cases, Contains-append_left, Contains-get_or}
use Rattle.std.proofs.lemmas.List.Quantifiers.{position-Some}
use Rattle.ftl_model.specs.layout.AttributeGrammar.{AttributeGrammar, Read, RuleName, Sort, each_read, for_child, for_self, inherited, input, last_read, local, prev_read, self_read, single_read, synthesized, this_read}
use Rattle.ftl_model.specs.layout.Solves.{rule_named}
use Rattle.ftl_order.specs.orders.Lawful.{IsLawful, IsRule, OfChild, OfClass, class_of_rule}
use Rattle.ftl_order.specs.orders.Pairs.{Where, WritesKid, WritesOwn, child_class, parent_class, same_class}
use Rattle.ftl_order.specs.dependencies.DepLaws.{FirstWriterIsFirst, NoneWhereNoneWrites, SitesSayWhere, WritersAreOfPairs, WritersAreRules, WritesSomewhere, where_of}
use Rattle.ftl_order.specs.dependencies.DepReads.{dep_read, kid_site, own_site, reads_of_parts}
use Rattle.ftl_order.specs.dependencies.Writers.{is_above, is_below, is_of_class, is_writer, writes_at}
use Rattle.ftl_order.proofs.dependencies.Places.{no_position, none_passes}
use Rattle.ftl_order.proofs.dependencies.ReadsThere.{IsThere, read_there}

module _ (g : AttributeGrammar) (law : IsLawful g) where
  -- an inherited attribute of a class is one of its interface
  shared_of : (k a : ℕ) → k < g.class_count → OfClass g k a → g.sort a ≡ inherited → Contains (g.shared (g.interface k)) a
  shared_of k a known of is =
      ⊎_elim (λ shared. shared)
      (λ own.
      ⊎_elim (λ e. absurd (let z : ⊥ = grind (arith, e, is) in z)) (λ e. absurd (let z : ⊥ = grind (arith, e, is) in z))
      (law.private_sorts k a (known, own)))
      (Contains-append_cases (g.shared (g.interface k)) (g.private k) a of)

  -- ---- the node itself

  own_to : (sort : Sort) (k a : ℕ) (w : RuleName) → IsRule g w → writes_at g k (own_site sort) None a w ≡ true
      → (runs_at : Where) × WritesOwn g sort k a runs_at w
  own_to input k a w rule h = absurd (false≢true h)
  own_to inherited k a (for_self l b) rule h = absurd (false≢true h)
  own_to inherited k a (for_child l d b) rule h =
      let parts = and_parts (a == b) (g.child_interface l d == g.interface k) h in (
        parent_class,
        (
          l,
          d,
          rule.0,
          rule.1,
          eqb-true (g.child_interface l d) (g.interface k) parts.1,
          refl,
          ap (for_child l d) (sym (eqb-true a b parts.0)),
        ),
      )
  own_to synthesized k a (for_self l b) rule h =
      let parts = and_parts (k == l) (a == b) h in
      (same_class, (refl, ap₂ for_self (sym (eqb-true k l parts.0)) (sym (eqb-true a b parts.1))))
  own_to synthesized k a (for_child l d b) rule h = absurd (false≢true h)
  own_to local k a (for_self l b) rule h =
      let parts = and_parts (k == l) (a == b) h in
      (same_class, (refl, ap₂ for_self (sym (eqb-true k l parts.0)) (sym (eqb-true a b parts.1))))
  own_to local k a (for_child l d b) rule h = absurd (false≢true h)

  own_from : (sort : Sort) (k a : ℕ) (w : RuleName) (runs_at : Where) → WritesOwn g sort k a runs_at w
      → writes_at g k (own_site sort) None a w ≡ true
  own_from input k a w runs_at h = absurd h
  own_from inherited k a w runs_at h =
      subst (λ v. is_above g k a v ≡ true) (sym h.6)
      (and_from (a == a) (g.child_interface h.0 h.1 == g.interface k) (eq-eqb a a refl)
      (eq-eqb (g.child_interface h.0 h.1) (g.interface k) h.4))
  own_from synthesized k a w runs_at h =
      subst (λ v. is_of_class k None a v ≡ true) (sym h.1)
      (and_from (k == k) (a == a) (eq-eqb k k refl) (eq-eqb a a refl))
  own_from local k a w runs_at h =
      subst (λ v. is_of_class k None a v ≡ true) (sym h.1)
      (and_from (k == k) (a == a) (eq-eqb k k refl) (eq-eqb a a refl))

  own_where : (sort : Sort) (k a : ℕ) (w : RuleName) (runs_at : Where) → WritesOwn g sort k a runs_at w
      → where_of (own_site sort) ≡ Some runs_at
  own_where input k a w runs_at h = absurd h
  own_where inherited k a w runs_at h = ap Some (sym h.5)
  own_where synthesized k a w runs_at h = ap Some (sym h.0)
  own_where local k a w runs_at h = ap Some (sym h.0)

  own_rule : (sort : Sort) (k a : ℕ) → g.sort a ≡ sort → k < g.class_count → OfClass g k a → (w : RuleName)
      → (runs_at : Where) → WritesOwn g sort k a runs_at w → IsRule g w
  own_rule input k a is known of w runs_at h = absurd h
  own_rule inherited k a is known of w runs_at h =
      subst (IsRule g) (sym h.6)
      (h.2, h.3, subst (λ i. Contains (g.shared i) a) (sym h.4) (shared_of k a known of is), is)
  own_rule synthesized k a is known of w runs_at h = subst (IsRule g) (sym h.1) (known, of, inl is)
  own_rule local k a is known of w runs_at h = subst (IsRule g) (sym h.1) (known, of, inr is)

  -- ---- a kid

  kid_to : (sort : Sort) (k c a : ℕ) → sort ≢ local → (w : RuleName) → IsRule g w
      → writes_at g k (kid_site sort) (Some c) a w ≡ true → (runs_at : Where) × WritesKid g sort k c a runs_at w
  kid_to input k c a shared w rule h = absurd (false≢true h)
  kid_to inherited k c a shared (for_self l b) rule h = absurd (false≢true h)
  kid_to inherited k c a shared (for_child l d b) rule h =
      let parts = and_parts (k == l) (c == d && a == b) h in
      let inner = and_parts (c == d) (a == b) parts.1 in (
        same_class,
        (
          refl,
          ap (λ m. for_child m d b) (sym (eqb-true k l parts.0))
              ∙ ap₂ (for_child k) (sym (eqb-true c d inner.0)) (sym (eqb-true a b inner.1)),
        ),
      )
  kid_to synthesized k c a shared (for_self l b) rule h =
      let parts = and_parts (a == b) (g.interface l == g.child_interface k c) h in (
        child_class,
        (
          l,
          rule.0,
          eqb-true (g.interface l) (g.child_interface k c) parts.1,
          refl,
          ap (for_self l) (sym (eqb-true a b parts.0)),
        ),
      )
  kid_to synthesized k c a shared (for_child l d b) rule h = absurd (false≢true h)
  kid_to local k c a shared w rule h = absurd (shared refl)

  kid_from : (sort : Sort) (k c a : ℕ) (w : RuleName) (runs_at : Where) → WritesKid g sort k c a runs_at w
      → writes_at g k (kid_site sort) (Some c) a w ≡ true
  kid_from input k c a w runs_at h = absurd h
  kid_from inherited k c a w runs_at h =
      subst (λ v. is_of_class k (Some c) a v ≡ true) (sym h.1)
      (and_from (k == k) (c == c && a == a) (eq-eqb k k refl)
      (and_from (c == c) (a == a) (eq-eqb c c refl) (eq-eqb a a refl)))
  kid_from synthesized k c a w runs_at h =
      subst (λ v. is_below g k (Some c) a v ≡ true) (sym h.4)
      (and_from (a == a) (g.interface h.0 == g.child_interface k c) (eq-eqb a a refl)
      (eq-eqb (g.interface h.0) (g.child_interface k c) h.2))
  kid_from local k c a w runs_at h = absurd h

  kid_where : (sort : Sort) (k c a : ℕ) (w : RuleName) (runs_at : Where) → WritesKid g sort k c a runs_at w
      → where_of (kid_site sort) ≡ Some runs_at
  kid_where input k c a w runs_at h = absurd h
  kid_where inherited k c a w runs_at h = ap Some (sym h.0)
  kid_where synthesized k c a w runs_at h = ap Some (sym h.3)
  kid_where local k c a w runs_at h = absurd h

  kid_rule : (sort : Sort) (k c a : ℕ) → g.sort a ≡ sort → k < g.class_count
      → (c < g.child_count k) × OfChild g k c a → (w : RuleName)
      → (runs_at : Where) → WritesKid g sort k c a runs_at w → IsRule g w
  kid_rule input k c a is known of w runs_at h = absurd h
  kid_rule inherited k c a is known of w runs_at h = subst (IsRule g) (sym h.1) (known, of.0, of.1, is)
  kid_rule synthesized k c a is known of w runs_at h =
      subst (IsRule g) (sym h.4) (
        h.1,
        Contains-append_left (g.shared (g.interface h.0)) (g.private h.0) a
            (subst (λ i. Contains (g.shared i) a) (sym h.2) of.1),
        inl is,
      )
  kid_rule local k c a is known of w runs_at h = absurd h

  kid_shared : (k c a : ℕ) → k < g.class_count → (c < g.child_count k) × OfChild g k c a → g.sort a ≢ local
  kid_shared k c a known of =
      law.shared_sorts (g.child_interface k c) a (law.children_known k c known of.0, of.1)

  -- ---- any read

  rule_class : (w : RuleName) → IsRule g w → class_of_rule w < g.class_count
  rule_class (for_self k a) rule = rule.0
  rule_class (for_child k c a) rule = rule.0

  to_pair : (k : ℕ) → k < g.class_count → (r : Read) → IsThere g law k r → (w : RuleName) → IsRule g w
      → is_writer g k (dep_read g r) w ≡ true → WritesSomewhere g k r w
  to_pair k known (self_read a) there w rule h = own_to (g.sort a) k a w rule h
  to_pair k known (single_read c a) there w rule h = kid_to (g.sort a) k c a (kid_shared k c a known there) w rule h
  to_pair k known (each_read c a) there w rule h = kid_to (g.sort a) k c a (kid_shared k c a known there) w rule h
  to_pair k known (this_read c a) there w rule h = kid_to (g.sort a) k c a (kid_shared k c a known there) w rule h
  to_pair k known (prev_read c a) there w rule h = kid_to (g.sort a) k c a (kid_shared k c a known there) w rule h
  to_pair k known (last_read c a) there w rule h = kid_to (g.sort a) k c a (kid_shared k c a known there) w rule h

  from_pair : (k : ℕ) (r : Read) (w : RuleName) → WritesSomewhere g k r w → is_writer g k (dep_read g r) w ≡ true
  from_pair k (self_read a) w h = own_from (g.sort a) k a w h.0 h.1
  from_pair k (single_read c a) w h = kid_from (g.sort a) k c a w h.0 h.1
  from_pair k (each_read c a) w h = kid_from (g.sort a) k c a w h.0 h.1
  from_pair k (this_read c a) w h = kid_from (g.sort a) k c a w h.0 h.1
  from_pair k (prev_read c a) w h = kid_from (g.sort a) k c a w h.0 h.1
  from_pair k (last_read c a) w h = kid_from (g.sort a) k c a w h.0 h.1

  is_rule : (k : ℕ) → k < g.class_count → (r : Read) → IsThere g law k r → (w : RuleName) → WritesSomewhere g k r w → IsRule g w
  is_rule k known (self_read a) there w h = own_rule (g.sort a) k a refl known there w h.0 h.1
  is_rule k known (single_read c a) there w h = kid_rule (g.sort a) k c a refl known there w h.0 h.1
  is_rule k known (each_read c a) there w h = kid_rule (g.sort a) k c a refl known there w h.0 h.1
  is_rule k known (this_read c a) there w h = kid_rule (g.sort a) k c a refl known there w h.0 h.1
  is_rule k known (prev_read c a) there w h = kid_rule (g.sort a) k c a refl known there w h.0 h.1
  is_rule k known (last_read c a) there w h = kid_rule (g.sort a) k c a refl known there w h.0 h.1

  pub sites_say : (k : ℕ) (r : Read) → SitesSayWhere g k r
  sites_say k (self_read a) runs_at w h = own_where (g.sort a) k a w runs_at h
  sites_say k (single_read c a) runs_at w h = kid_where (g.sort a) k c a w runs_at h
  sites_say k (each_read c a) runs_at w h = kid_where (g.sort a) k c a w runs_at h
  sites_say k (this_read c a) runs_at w h = kid_where (g.sort a) k c a w runs_at h
  sites_say k (prev_read c a) runs_at w h = kid_where (g.sort a) k c a w runs_at h
  sites_say k (last_read c a) runs_at w h = kid_where (g.sort a) k c a w runs_at h

  -- ---- of each read of a rule

  module _ (w : RuleName) (r : Read) (rule : IsRule g w) (in_it : Contains (reads_of_parts (rule_named g w).parts) r) where
    abbrev k : ℕ
    k = class_of_rule w

    pub writers_of_pairs : WritersAreOfPairs g k r
    writers_of_pairs v valid =
        (to_pair k (rule_class w rule) r (read_there g law w r rule in_it) v valid, from_pair k r v)

    pub writers_are_rules : WritersAreRules g k r
    writers_are_rules v h = is_rule k (rule_class w rule) r (read_there g law w r rule in_it) v h

    pub first_is_first : FirstWriterIsFirst g k r
    first_is_first n h =
        let p = position-Some (is_writer g k (dep_read g r)) g.rules n (for_self 0 0) h in
        let v = get_or g.rules n (for_self 0 0) in (
          (
            v,
            slice_get-get_or g.rules n (for_self 0 0) p.0,
            (writers_of_pairs v (law.rules_are v (Contains-get_or g.rules n (for_self 0 0) p.0))).0 p.1,
          ),
          (λ m u before at writes.
              both_ways (is_writer g k (dep_read g r) u)
              (subst (λ x. is_writer g k (dep_read g r) x ≡ false) (get_or_from_slice_get g.rules m u (for_self 0 0) at)
              (p.2 m before))
              (from_pair k r u writes)),
        )

    pub none_where_none : NoneWhereNoneWrites g k r
    none_where_none = (
      (λ none v writes.
          none_passes (is_writer g k (dep_read g r)) g.rules none v (law.rules_have v (writers_are_rules v writes))
          (from_pair k r v writes)),
      (λ none. no_position (is_writer g k (dep_read g r)) g.rules
          (λ v there passes. none v ((writers_of_pairs v (law.rules_are v there)).0 passes))),
    )
