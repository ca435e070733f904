-- No schedule is ordered for the twisted grammar.
use Rattle.std.proofs.Common.{◌<◌, false, refl, inl, ⊎_elim, lit<, arith}
use Rattle.ftl_model.specs.layout.AttributeGrammar.{for_child, for_self, plain_part, self_read, single_read}
use Rattle.ftl_order.specs.orders.Ordered.{ChildRow, IsOrdered, ParentRow, visit_place}
use Rattle.ftl_order.specs.orders.Pairs.{IsPair, Pair, child_class, parent_class}
use Rattle.ftl_order.specs.orders.Schedule.{PassKind, Schedule, bottomup, inorder, placing_of, topdown}
use Rattle.ftl_order.specs.worked.WorkedSchedules.{pair_of}
use Rattle.ftl_noncircular.specs.grammars.Worked.{framed, twisted}

-- Box r.i reads self.i, written by Top
abbrev right_reads : Pair
right_reads = pair_of (for_child 2 2 3) plain_part (self_read 3) parent_class (for_child 0 1 3)

-- Box l.i reads r.s, written by Leaf
abbrev left_reads : Pair
left_reads = pair_of (for_child 2 1 3) plain_part (single_read 2 4) child_class (for_self 3 4)

-- Leaf self.s reads self.i, written by Box
abbrev leaf_reads : Pair
leaf_reads = pair_of (for_self 3 4) plain_part (self_read 3) parent_class (for_child 2 1 3)

right_is : IsPair (framed twisted) right_reads
right_is = (
  ((lit< tt, lit< tt, (0, lit< tt, refl), refl), (0, lit< tt, refl)),
  (0, 1, lit< tt, lit< tt, refl, refl, refl),
)

left_is : IsPair (framed twisted) left_reads
left_is = (
  ((lit< tt, lit< tt, (0, lit< tt, refl), refl), (0, lit< tt, refl)),
  (3, lit< tt, refl, refl, refl),
)

leaf_is : IsPair (framed twisted) leaf_reads
leaf_is = (
  ((lit< tt, (1, lit< tt, refl), inl refl), (0, lit< tt, refl)),
  (2, 1, lit< tt, lit< tt, refl, refl, refl),
)

-- no pass has both the rule for r and that for l
no_kind : (kind : PassKind) → ParentRow kind
    → ChildRow kind false 2 (visit_place (framed twisted) (for_child 2 1 3)) → ⊥
no_kind topdown parent child = child
no_kind bottomup parent child = parent
no_kind inorder parent child =
    ⊎_elim (λ own. (let z : ⊥ = omega (arith, own) in z))
    (λ kid.
    ⊎_elim (λ before. (let z : ⊥ = omega (arith, before) in z)) (λ none. (let z : ⊥ = grind (arith, none) in z)) kid.1)
    child

pub twisted_unordered : (s : Schedule) → IsOrdered (framed twisted) s → ⊥
twisted_unordered s ordered =
    let at = placing_of s in
    let right = ordered.pairs right_reads right_is in
    let left = ordered.pairs left_reads left_is in
    let leaf = ordered.pairs leaf_reads leaf_is in
    let above : ParentRow (at 3).kind =
    ⊎_elim (λ earlier. absurd (let z : ⊥ = omega (arith, earlier) in z)) (λ same. same.1) right in
    let s_first : (at 4).stage < (at 3).stage =
    ⊎_elim (λ earlier. earlier) (λ same. absurd (no_kind (at 3).kind above same.1)) left in
    ⊎_elim (λ earlier. (let z : ⊥ = omega (arith, earlier, s_first) in z))
    (λ same. let e = same.0.0 in (let z : ⊥ = omega (arith, e, s_first) in z)) leaf
