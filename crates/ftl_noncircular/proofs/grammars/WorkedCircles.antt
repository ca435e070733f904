-- Grammars that are lawful and circular.
use Rattle.std.proofs.Common.{ℕ, Bool, true, false, refl, inl, inr, lit<, [], ◌∷◌, Contains}
use Rattle.ftl_model.proofs.lists.Elements.{each_in}
use Rattle.ftl_model.specs.layout.AttributeGrammar.{Read, RuleName, each_read, for_child, for_self, plain, self_read, single_read, this_read}
use Rattle.ftl_model.specs.layout.Solves.{rule_named}
use Rattle.ftl_order.specs.dependencies.DepReads.{reads_of_parts}
use Rattle.ftl_order.specs.orders.Lawful.{IsLawful, IsRule, IsSingle, MayReadForChild, MayReadForSelf, MayReadInStep, OfChild, PartsForChild, class_of_rule}
use Rattle.ftl_noncircular.specs.grammars.Noncircular.{Dependence, Edge, Family, IsVertex, MakesEdge, Vertex, family_of, of_child, of_self, target_vertex, vertex_of}
use Rattle.ftl_noncircular.specs.grammars.Worked.{FrameParts, IsCircularAt, by_fold, by_itself, by_kid, by_listed_kid, by_several, by_several_and_self, by_this, framed}
use Rattle.ftl_noncircular.proofs.grammars.WorkedLawful.{PartsAllowed, each_rule, frame_lawful, kid_one, own_one}

-- the vertices and rules of the top class, and the edge of a read of any rule
module _ (p : FrameParts) where
  pub self_a : IsVertex (framed p) 0 (of_self 5)
  self_a = (0, lit< tt, refl)

  pub kids_x : IsVertex (framed p) 0 (of_child 0 0)
  kids_x = (lit< tt, (0, lit< tt, refl))

  pub kids_y : IsVertex (framed p) 0 (of_child 0 1)
  kids_y = (lit< tt, (1, lit< tt, refl))

  pub kids_z : IsVertex (framed p) 0 (of_child 0 2)
  kids_z = (lit< tt, (2, lit< tt, refl))

  pub d_i : IsVertex (framed p) 0 (of_child 1 3)
  d_i = (lit< tt, (0, lit< tt, refl))

  pub d_s : IsVertex (framed p) 0 (of_child 1 4)
  d_s = (lit< tt, (1, lit< tt, refl))

  pub rule_a : IsRule (framed p) (for_self 0 5)
  rule_a = (lit< tt, (0, lit< tt, refl), inr refl)

  pub rule_x : IsRule (framed p) (for_child 0 0 0)
  rule_x = (lit< tt, lit< tt, (0, lit< tt, refl), refl)

  pub rule_y : IsRule (framed p) (for_child 0 0 1)
  rule_y = (lit< tt, lit< tt, (1, lit< tt, refl), refl)

  pub rule_i : IsRule (framed p) (for_child 0 1 3)
  rule_i = (lit< tt, lit< tt, (0, lit< tt, refl), refl)

  pub edge_of : (family : Family) (prevs : Bool) (w : RuleName) (r : Read) → IsRule (framed p) w
      → Contains (reads_of_parts (rule_named (framed p) w).parts) r → MakesEdge prevs r
      → IsVertex (framed p) (class_of_rule w) (vertex_of r) → IsVertex (framed p) (class_of_rule w) (target_vertex w)
      → Edge (framed p) family prevs (class_of_rule w) (vertex_of r) (target_vertex w)
  edge_of family prevs w r rule reads makes from to = (from, to, inl (w, rule, refl, refl, (r, reads, makes, refl)))

  -- an edge by the least family
  abbrev pub Leads : (prevs : Bool) (class : ℕ) → Vertex → Vertex → Type 0
  Leads prevs class x y = Edge (framed p) (Dependence (framed p)) prevs class x y

  pub leads_by : (prevs : Bool) (w : RuleName) (r : Read) → IsRule (framed p) w
      → Contains (reads_of_parts (rule_named (framed p) w).parts) r → MakesEdge prevs r
      → IsVertex (framed p) (class_of_rule w) (vertex_of r) → IsVertex (framed p) (class_of_rule w) (target_vertex w)
      → Leads prevs (class_of_rule w) (vertex_of r) (target_vertex w)
  leads_by prevs w r rule reads makes from to = edge_of (Dependence (framed p)) prevs w r rule reads makes from to

-- ---- at a node, with no `prev`

pub by_itself_circular : IsCircularAt (framed by_itself) 0 (of_self 5)
by_itself_circular =
    record {
      lawful = frame_lawful by_itself
          (each_rule by_itself (PartsAllowed by_itself)
          (each_in (MayReadForSelf (framed by_itself) 0) (self_read 5 ∷ []) (self_a by_itself, tt))
          (kid_one by_itself 0 0) (kid_one by_itself 0 0) (kid_one by_itself 0 1) (own_one by_itself 1)
          (own_one by_itself 2) (kid_one by_itself 2 0) (kid_one by_itself 2 0) (kid_one by_itself 2 1)
          (kid_one by_itself 2 2) (own_one by_itself 3));
      known = lit< tt;
      vertex = self_a by_itself;
      circular = inl (tt, (0, (of_self 5, a_to_a, refl)));
    }
  where
    a_to_a : Leads by_itself true 0 (of_self 5) (of_self 5)
    a_to_a =
        leads_by by_itself true (for_self 0 5) (self_read 5) (rule_a by_itself)
        (0, lit< tt, refl) tt (self_a by_itself) (self_a by_itself)

pub by_this_circular : IsCircularAt (framed by_this) 0 (of_child 0 0)
by_this_circular =
    record {
      lawful = frame_lawful by_this
          (each_rule by_this (PartsAllowed by_this) (own_one by_this 0)
          (each_in (MayReadForChild (framed by_this) 0 0) (this_read 0 1 ∷ [])
          ((refl, (lit< tt, refl), (1, lit< tt, refl)), tt))
          (each_in (MayReadForChild (framed by_this) 0 0) (this_read 0 0 ∷ [])
          ((refl, (lit< tt, refl), (0, lit< tt, refl)), tt))
          (kid_one by_this 0 1) (own_one by_this 1) (own_one by_this 2) (kid_one by_this 2 0) (kid_one by_this 2 0)
          (kid_one by_this 2 1) (kid_one by_this 2 2) (own_one by_this 3));
      known = lit< tt;
      vertex = kids_x by_this;
      circular = inr (1, (of_child 0 1, x_to_y, (of_child 0 0, y_to_x, refl)));
    }
  where
    x_to_y : Leads by_this false 0 (of_child 0 0) (of_child 0 1)
    x_to_y =
        leads_by by_this false (for_child 0 0 1) (this_read 0 0) (rule_y by_this)
        (0, lit< tt, refl) tt (kids_x by_this) (kids_y by_this)

    y_to_x : Leads by_this false 0 (of_child 0 1) (of_child 0 0)
    y_to_x =
        leads_by by_this false (for_child 0 0 0) (this_read 0 1) (rule_x by_this)
        (0, lit< tt, refl) tt (kids_y by_this) (kids_x by_this)

pub by_fold_circular : IsCircularAt (framed by_fold) 0 (of_self 5)
by_fold_circular =
    record {
      lawful = frame_lawful by_fold
          (each_rule by_fold (PartsAllowed by_fold) (
            (lit< tt, refl),
            each_in (MayReadForSelf (framed by_fold) 0) [] tt,
            each_in (MayReadInStep (framed by_fold) 0 0) (each_read 0 0 ∷ []) ((refl, (0, lit< tt, refl)), tt),
          )
          (each_in (MayReadForChild (framed by_fold) 0 0) (self_read 5 ∷ []) (self_a by_fold, tt))
          (kid_one by_fold 0 0) (kid_one by_fold 0 1) (own_one by_fold 1) (own_one by_fold 2) (kid_one by_fold 2 0)
          (kid_one by_fold 2 0) (kid_one by_fold 2 1) (kid_one by_fold 2 2) (own_one by_fold 3));
      known = lit< tt;
      vertex = self_a by_fold;
      circular = inl (tt, (1, (of_child 0 0, a_to_x, (of_self 5, x_to_a, refl))));
    }
  where
    a_to_x : Leads by_fold true 0 (of_self 5) (of_child 0 0)
    a_to_x =
        leads_by by_fold true (for_child 0 0 0) (self_read 5) (rule_x by_fold)
        (0, lit< tt, refl) tt (self_a by_fold) (kids_x by_fold)

    x_to_a : Leads by_fold true 0 (of_child 0 0) (of_self 5)
    x_to_a =
        leads_by by_fold true (for_self 0 5) (each_read 0 0) (rule_a by_fold)
        (0, lit< tt, refl) tt (kids_x by_fold) (self_a by_fold)

-- ---- through the tree of a kid

pub by_kid_circular : IsCircularAt (framed by_kid) 0 (of_child 1 3)
by_kid_circular =
    record {
      lawful = frame_lawful by_kid
          (each_rule by_kid (PartsAllowed by_kid) (own_one by_kid 0) (kid_one by_kid 0 0) (kid_one by_kid 0 0)
          (each_in (MayReadForChild (framed by_kid) 0 1) (single_read 1 4 ∷ [])
          (((lit< tt, refl), (1, lit< tt, refl)), tt))
          (own_one by_kid 1) (own_one by_kid 2) (kid_one by_kid 2 0) (kid_one by_kid 2 0) (kid_one by_kid 2 1)
          (kid_one by_kid 2 2)
          (each_in (MayReadForSelf (framed by_kid) 3) (self_read 3 ∷ []) ((0, lit< tt, refl), tt)));
      known = lit< tt;
      vertex = d_i by_kid;
      circular = inl (refl, (1, (of_child 1 4, i_to_s, (of_child 1 3, s_to_i, refl))));
    }
  where
    in_leaf : (has : ℕ → ℕ → Bool) → Edge (framed by_kid) (family_of has) true 3 (of_self 3) (of_self 4)
    in_leaf has =
        edge_of by_kid (family_of has) true (for_self 3 4) (self_read 3) (lit< tt, (1, lit< tt, refl), inl refl)
        (0, lit< tt, refl) tt (0, lit< tt, refl) (1, lit< tt, refl)

    depends : Dependence (framed by_kid) 3 4
    depends has closed =
        closed 3 3 4
        (record {
          known = lit< tt;
          from = (0, lit< tt, refl);
          from_sort = refl;
          to = (1, lit< tt, refl);
          to_sort = refl;
        })
        (0, (of_self 4, in_leaf has, refl))

    i_to_s : Leads by_kid true 0 (of_child 1 3) (of_child 1 4)
    i_to_s = (d_i by_kid, d_s by_kid, inr (refl, refl, refl, depends))

    s_to_i : Leads by_kid true 0 (of_child 1 4) (of_child 1 3)
    s_to_i =
        leads_by by_kid true (for_child 0 1 3) (single_read 1 4) (rule_i by_kid)
        (0, lit< tt, refl) tt (d_s by_kid) (d_i by_kid)

pub by_listed_kid_circular : IsCircularAt (framed by_listed_kid) 0 (of_child 0 0)
by_listed_kid_circular =
    record {
      lawful = frame_lawful by_listed_kid
          (each_rule by_listed_kid (PartsAllowed by_listed_kid) (own_one by_listed_kid 0)
          (each_in (MayReadForChild (framed by_listed_kid) 0 0) (this_read 0 2 ∷ [])
          ((refl, (lit< tt, refl), (2, lit< tt, refl)), tt))
          (kid_one by_listed_kid 0 0) (kid_one by_listed_kid 0 1)
          (each_in (MayReadForSelf (framed by_listed_kid) 1) (self_read 0 ∷ []) ((0, lit< tt, refl), tt))
          (own_one by_listed_kid 2) (kid_one by_listed_kid 2 0) (kid_one by_listed_kid 2 0) (kid_one by_listed_kid 2 1)
          (kid_one by_listed_kid 2 2) (own_one by_listed_kid 3));
      known = lit< tt;
      vertex = kids_x by_listed_kid;
      circular = inr (1, (of_child 0 2, x_to_z, (of_child 0 0, z_to_x, refl)));
    }
  where
    in_kid : (has : ℕ → ℕ → Bool) → Edge (framed by_listed_kid) (family_of has) true 1 (of_self 0) (of_self 2)
    in_kid has =
        edge_of by_listed_kid (family_of has) true (for_self 1 2) (self_read 0) (lit< tt, (2, lit< tt, refl), inl refl)
        (0, lit< tt, refl) tt (0, lit< tt, refl) (2, lit< tt, refl)

    depends : Dependence (framed by_listed_kid) 0 2
    depends has closed =
        closed 1 0 2
        (record {
          known = lit< tt;
          from = (0, lit< tt, refl);
          from_sort = refl;
          to = (2, lit< tt, refl);
          to_sort = refl;
        })
        (0, (of_self 2, in_kid has, refl))

    x_to_z : Leads by_listed_kid false 0 (of_child 0 0) (of_child 0 2)
    x_to_z = (kids_x by_listed_kid, kids_z by_listed_kid, inr (refl, refl, refl, depends))

    z_to_x : Leads by_listed_kid false 0 (of_child 0 2) (of_child 0 0)
    z_to_x =
        leads_by by_listed_kid false (for_child 0 0 0) (this_read 0 2)
        (rule_x by_listed_kid) (0, lit< tt, refl) tt (kids_z by_listed_kid) (kids_x by_listed_kid)

-- ---- in several places

-- Top kids.x or kids.y reads `this`
this_may : (p : FrameParts) (a : ℕ) → OfChild (framed p) 0 0 a
    → PartsForChild (framed p) 0 0 (plain (this_read 0 a ∷ []))
this_may p a of =
    each_in (MayReadForChild (framed p) 0 0) (this_read 0 a ∷ []) ((refl, (lit< tt, refl), of), tt)

-- the i of a single child reads itself
single_may : (p : FrameParts) (k c : ℕ) → IsSingle (framed p) k c → OfChild (framed p) k c 3
    → PartsForChild (framed p) k c (plain (single_read c 3 ∷ []))
single_may p k c single of = each_in (MayReadForChild (framed p) k c) (single_read c 3 ∷ []) ((single, of), tt)

pub by_several_lawful : IsLawful (framed by_several)
by_several_lawful =
    frame_lawful by_several
    (each_rule by_several (PartsAllowed by_several) (own_one by_several 0)
    (this_may by_several 1 (1, lit< tt, refl)) (this_may by_several 0 (0, lit< tt, refl))
    (single_may by_several 0 1 (lit< tt, refl) (0, lit< tt, refl)) (own_one by_several 1) (own_one by_several 2)
    (kid_one by_several 2 0) (kid_one by_several 2 0)
    (single_may by_several 2 1 (lit< tt, refl) (0, lit< tt, refl)) (kid_one by_several 2 2) (own_one by_several 3))

pub by_several_and_self_lawful : IsLawful (framed by_several_and_self)
by_several_and_self_lawful =
    frame_lawful by_several_and_self
    (each_rule by_several_and_self (PartsAllowed by_several_and_self)
    (each_in (MayReadForSelf (framed by_several_and_self) 0) (self_read 5 ∷ []) (self_a by_several_and_self, tt))
    (this_may by_several_and_self 1 (1, lit< tt, refl)) (this_may by_several_and_self 0 (0, lit< tt, refl))
    (single_may by_several_and_self 0 1 (lit< tt, refl) (0, lit< tt, refl)) (own_one by_several_and_self 1)
    (own_one by_several_and_self 2) (kid_one by_several_and_self 2 0) (kid_one by_several_and_self 2 0)
    (single_may by_several_and_self 2 1 (lit< tt, refl) (0, lit< tt, refl)) (kid_one by_several_and_self 2 2)
    (own_one by_several_and_self 3))
