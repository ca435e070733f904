-- Grammars that are lawful, and circular by a walk with a read by `prev` alone.
use Rattle.std.proofs.Common.{ℕ, Bool, true, refl, inl, inr, lit<, [], ◌∷◌}
use Rattle.ftl_model.proofs.lists.Elements.{each_in}
use Rattle.ftl_model.specs.layout.AttributeGrammar.{for_child, for_self, last_read, prev_read, self_read, single_read}
use Rattle.ftl_order.specs.orders.Lawful.{MayReadForChild, MayReadForSelf, MayReadLater}
use Rattle.ftl_noncircular.specs.grammars.Noncircular.{Dependence, Edge, family_of, of_child, of_self}
use Rattle.ftl_noncircular.specs.grammars.Worked.{IsCircularAt, by_prev_and_self, by_prev_and_single, by_prev_in_kid, framed}
use Rattle.ftl_noncircular.proofs.grammars.WorkedCircles.{Leads, d_i, d_s, edge_of, leads_by, kids_x, kids_y, rule_a, rule_i, rule_x, rule_y, self_a}
use Rattle.ftl_noncircular.proofs.grammars.WorkedLawful.{PartsAllowed, each_rule, frame_lawful, kid_one, own_one}

pub by_prev_and_self_circular : IsCircularAt (framed by_prev_and_self) 0 (of_self 5)
by_prev_and_self_circular =
    record {
      lawful = frame_lawful by_prev_and_self
          (each_rule by_prev_and_self (PartsAllowed by_prev_and_self)
          (each_in (MayReadForSelf (framed by_prev_and_self) 0) (last_read 0 0 ∷ [])
          (((lit< tt, refl), (0, lit< tt, refl)), tt)) (
            (lit< tt, refl),
            each_in (MayReadForChild (framed by_prev_and_self) 0 0) [] tt,
            each_in (MayReadLater (framed by_prev_and_self) 0 0) (prev_read 0 1 ∷ [])
                ((refl, (lit< tt, refl), (1, lit< tt, refl)), tt),
          )
          (each_in (MayReadForChild (framed by_prev_and_self) 0 0) (self_read 5 ∷ []) (self_a by_prev_and_self, tt))
          (kid_one by_prev_and_self 0 1) (own_one by_prev_and_self 1) (own_one by_prev_and_self 2)
          (kid_one by_prev_and_self 2 0) (kid_one by_prev_and_self 2 0) (kid_one by_prev_and_self 2 1)
          (kid_one by_prev_and_self 2 2) (own_one by_prev_and_self 3));
      known = lit< tt;
      vertex = self_a by_prev_and_self;
      circular = inl (tt, (2, (of_child 0 1, a_to_y, (of_child 0 0, y_to_x, (of_self 5, x_to_a, refl)))));
    }
  where
    a_to_y : Leads by_prev_and_self true 0 (of_self 5) (of_child 0 1)
    a_to_y =
        leads_by by_prev_and_self true (for_child 0 0 1) (self_read 5) (rule_y by_prev_and_self)
        (0, lit< tt, refl) tt (self_a by_prev_and_self) (kids_y by_prev_and_self)

    y_to_x : Leads by_prev_and_self true 0 (of_child 0 1) (of_child 0 0)
    y_to_x =
        leads_by by_prev_and_self true (for_child 0 0 0) (prev_read 0 1) (rule_x by_prev_and_self)
        (0, lit< tt, refl) tt (kids_y by_prev_and_self) (kids_x by_prev_and_self)

    x_to_a : Leads by_prev_and_self true 0 (of_child 0 0) (of_self 5)
    x_to_a =
        leads_by by_prev_and_self true (for_self 0 5) (last_read 0 0) (rule_a by_prev_and_self)
        (0, lit< tt, refl) tt (kids_x by_prev_and_self) (self_a by_prev_and_self)

pub by_prev_and_single_circular : IsCircularAt (framed by_prev_and_single) 0 (of_child 1 3)
by_prev_and_single_circular =
    record {
      lawful = frame_lawful by_prev_and_single
          (each_rule by_prev_and_single (PartsAllowed by_prev_and_single) (own_one by_prev_and_single 0) (
            (lit< tt, refl),
            each_in (MayReadForChild (framed by_prev_and_single) 0 0) [] tt,
            each_in (MayReadLater (framed by_prev_and_single) 0 0) (prev_read 0 1 ∷ [])
                ((refl, (lit< tt, refl), (1, lit< tt, refl)), tt),
          )
          (each_in (MayReadForChild (framed by_prev_and_single) 0 0) (single_read 1 3 ∷ [])
          (((lit< tt, refl), (0, lit< tt, refl)), tt))
          (each_in (MayReadForChild (framed by_prev_and_single) 0 1) (last_read 0 0 ∷ [])
          (((lit< tt, refl), (lit< tt, refl), (0, lit< tt, refl)), tt))
          (own_one by_prev_and_single 1) (own_one by_prev_and_single 2) (kid_one by_prev_and_single 2 0)
          (kid_one by_prev_and_single 2 0) (kid_one by_prev_and_single 2 1) (kid_one by_prev_and_single 2 2)
          (own_one by_prev_and_single 3));
      known = lit< tt;
      vertex = d_i by_prev_and_single;
      circular = inl (refl, (2, (of_child 0 1, i_to_y, (of_child 0 0, y_to_x, (of_child 1 3, x_to_i, refl)))));
    }
  where
    i_to_y : Leads by_prev_and_single true 0 (of_child 1 3) (of_child 0 1)
    i_to_y =
        leads_by by_prev_and_single true (for_child 0 0 1) (single_read 1 3)
        (rule_y by_prev_and_single) (0, lit< tt, refl) tt (d_i by_prev_and_single) (kids_y by_prev_and_single)

    y_to_x : Leads by_prev_and_single true 0 (of_child 0 1) (of_child 0 0)
    y_to_x =
        leads_by by_prev_and_single true (for_child 0 0 0) (prev_read 0 1) (rule_x by_prev_and_single)
        (0, lit< tt, refl) tt (kids_y by_prev_and_single) (kids_x by_prev_and_single)

    x_to_i : Leads by_prev_and_single true 0 (of_child 0 0) (of_child 1 3)
    x_to_i =
        leads_by by_prev_and_single true (for_child 0 1 3) (last_read 0 0) (rule_i by_prev_and_single)
        (0, lit< tt, refl) tt (kids_x by_prev_and_single) (d_i by_prev_and_single)

pub by_prev_in_kid_circular : IsCircularAt (framed by_prev_in_kid) 0 (of_child 1 3)
by_prev_in_kid_circular =
    record {
      lawful = frame_lawful by_prev_in_kid
          (each_rule by_prev_in_kid (PartsAllowed by_prev_in_kid) (own_one by_prev_in_kid 0)
          (kid_one by_prev_in_kid 0 0) (kid_one by_prev_in_kid 0 0)
          (each_in (MayReadForChild (framed by_prev_in_kid) 0 1) (single_read 1 4 ∷ [])
          (((lit< tt, refl), (1, lit< tt, refl)), tt))
          (own_one by_prev_in_kid 1)
          (each_in (MayReadForSelf (framed by_prev_in_kid) 2) (last_read 0 0 ∷ [])
          (((lit< tt, refl), (0, lit< tt, refl)), tt)) (
            (lit< tt, refl),
            each_in (MayReadForChild (framed by_prev_in_kid) 2 0) [] tt,
            each_in (MayReadLater (framed by_prev_in_kid) 2 0) (prev_read 0 1 ∷ [])
                ((refl, (lit< tt, refl), (1, lit< tt, refl)), tt),
          )
          (each_in (MayReadForChild (framed by_prev_in_kid) 2 0) (self_read 3 ∷ []) ((0, lit< tt, refl), tt))
          (kid_one by_prev_in_kid 2 1) (kid_one by_prev_in_kid 2 2) (own_one by_prev_in_kid 3));
      known = lit< tt;
      vertex = d_i by_prev_in_kid;
      circular = inl (refl, (1, (of_child 1 4, i_to_s, (of_child 1 3, s_to_i, refl))));
    }
  where
    i_to_y : (has : ℕ → ℕ → Bool) → Edge (framed by_prev_in_kid) (family_of has) true 2 (of_self 3) (of_child 0 1)
    i_to_y has =
        edge_of by_prev_in_kid (family_of has) true (for_child 2 0 1) (self_read 3)
        (lit< tt, lit< tt, (1, lit< tt, refl), refl) (0, lit< tt, refl) tt (0, lit< tt, refl)
        (lit< tt, (1, lit< tt, refl))

    y_to_x : (has : ℕ → ℕ → Bool) → Edge (framed by_prev_in_kid) (family_of has) true 2 (of_child 0 1) (of_child 0 0)
    y_to_x has =
        edge_of by_prev_in_kid (family_of has) true (for_child 2 0 0) (prev_read 0 1)
        (lit< tt, lit< tt, (0, lit< tt, refl), refl) (0, lit< tt, refl) tt (lit< tt, (1, lit< tt, refl))
        (lit< tt, (0, lit< tt, refl))

    x_to_s : (has : ℕ → ℕ → Bool) → Edge (framed by_prev_in_kid) (family_of has) true 2 (of_child 0 0) (of_self 4)
    x_to_s has =
        edge_of by_prev_in_kid (family_of has) true (for_self 2 4) (last_read 0 0)
        (lit< tt, (1, lit< tt, refl), inl refl) (0, lit< tt, refl) tt (lit< tt, (0, lit< tt, refl)) (1, lit< tt, refl)

    depends : Dependence (framed by_prev_in_kid) 3 4
    depends has closed =
        closed 2 3 4
        (record {
          known = lit< tt;
          from = (0, lit< tt, refl);
          from_sort = refl;
          to = (1, lit< tt, refl);
          to_sort = refl;
        })
        (2, (of_child 0 1, i_to_y has, (of_child 0 0, y_to_x has, (of_self 4, x_to_s has, refl))))

    i_to_s : Leads by_prev_in_kid true 0 (of_child 1 3) (of_child 1 4)
    i_to_s = (d_i by_prev_in_kid, d_s by_prev_in_kid, inr (refl, refl, refl, depends))

    s_to_i : Leads by_prev_in_kid true 0 (of_child 1 4) (of_child 1 3)
    s_to_i =
        leads_by by_prev_in_kid true (for_child 0 1 3) (single_read 1 4) (rule_i by_prev_in_kid)
        (0, lit< tt, refl) tt (d_s by_prev_in_kid) (d_i by_prev_in_kid)
