-- Pairs that worked schedules leave unordered, and attributes that they list twice or never.
use Rattle.std.proofs.Common.{refl, inl, inr, ⊎_elim, lit<, arith}
use Rattle.ftl_model.specs.layout.AttributeGrammar.{for_self}
use Rattle.ftl_model.specs.layout.Stack.{box_h, column, stack}
use Rattle.ftl_order.specs.orders.Pairs.{IsPair}
use Rattle.ftl_order.specs.orders.Schedule.{EachStandsOnce}
use Rattle.ftl_order.specs.worked.Chain.{a_reads_b, chain, chain_inorder, chain_topdown}
use Rattle.ftl_order.specs.worked.WorkedSchedules.{LeavesUnordered, Orders, column_reads_height, heights_topdown, kids_read_prev_h, places_beside, places_first, sheet_reads_height, slanted, slanted_pair, width_twice, y_missing}
use Rattle.ftl_order.proofs.worked.StackPairs.{listed_pairs}

pub heights_unordered : LeavesUnordered stack heights_topdown (column_reads_height (for_self column box_h))
heights_unordered = (
  listed_pairs (column_reads_height (for_self column box_h)) (4, lit< tt, refl),
  λ h. ⊎_elim (λ stage. (let z : ⊥ = omega (arith, stage) in z)) (λ row. row.1) h,
)

pub sheet_ordered : Orders stack heights_topdown (sheet_reads_height (for_self column box_h))
sheet_ordered = (listed_pairs (sheet_reads_height (for_self column box_h)) (0, lit< tt, refl), inl (lit< tt))

pub places_first_unordered : LeavesUnordered stack places_first (kids_read_prev_h (for_self column box_h))
places_first_unordered = (
  listed_pairs (kids_read_prev_h (for_self column box_h)) (11, lit< tt, refl),
  λ h. ⊎_elim (λ stage. (let z : ⊥ = omega (arith, stage) in z)) (λ row. let one = row.0.0 in omega (arith, one)) h,
)

pub slanted_unordered : LeavesUnordered slanted places_beside slanted_pair
slanted_unordered = (
  (((lit< tt, lit< tt, (1, lit< tt, refl), refl), (0, lit< tt, refl)), (0, 0, lit< tt, lit< tt, refl, refl, refl)),
  λ h. ⊎_elim (λ stage. (let z : ⊥ = omega (arith, stage) in z)) (λ row. let pass = row.0.1 in omega (arith, pass)) h,
)

chain_is_pair : IsPair chain a_reads_b
chain_is_pair = (((lit< tt, lit< tt, (0, lit< tt, refl), refl), (0, lit< tt, refl)), (refl, refl))

pub chain_unordered : LeavesUnordered chain chain_topdown a_reads_b
chain_unordered = (
  chain_is_pair,
  λ h.
      ⊎_elim (λ stage. (let z : ⊥ = omega (arith, stage) in z))
      (λ row.
      ⊎_elim
      (λ key.
      ⊎_elim (λ index. (let z : ⊥ = omega (arith, index) in z))
      (λ child. let same = child.0 in omega (arith, same)) key)
      (λ rule. let same = rule.1.0 in omega (arith, same)) row.1)
      h,
)

pub chain_ordered : Orders chain chain_inorder a_reads_b
chain_ordered = (chain_is_pair, inr ((refl, refl), inr ((refl, refl), inr refl)))

pub width_stands_twice : EachStandsOnce stack width_twice → ⊥
width_stands_twice once = let e = once 3 (lit< tt) (λ e. (let z : ⊥ = grind arith in z)) in omega
    (arith, e)

pub y_is_missing : EachStandsOnce stack y_missing → ⊥
y_is_missing once = let e = once 2 (lit< tt) (λ e. (let z : ⊥ = grind arith in z)) in omega
    (arith, e)
