-- The cells of the tree at a node stand one after another.
use Rattle.std.proofs.Common.{◌≡◌, ℕ, zero, suc, ◌+◌, ◌-◌, ◌<◌, ◌≤◌, sym, ap, subst, ⊎_elim, arith}
use Rattle.ftl_model.proofs.lists.Places.{place_within}
use Rattle.ftl_model.specs.layout.AttributeGrammar.{AttributeGrammar, attributes_of}
use Rattle.ftl_model.specs.layout.Path.{AtOrAbove, Has, Path, class_at, number_of, size_at, top}
use Rattle.ftl_model.specs.layout.Solves.{Instance, IsInstance}
use Rattle.ftl_model.specs.layout.Table.{first_instance, instance_count, instance_number, width_at}
use Rattle.ftl_model.specs.layout.Tree.{Forest, size}
use Rattle.ftl_model.specs.layout.TreeOf.{IsTreeOf}
use Rattle.ftl_items.proofs.stage_items.Homes.{has_above}
use Rattle.ftl_model.proofs.layout.Standing.{node_at-number_of, number_of-lt}
use Rattle.ftl_order.proofs.orders.Ranges.{above_range}
use Rattle.ftl_order.proofs.orders.SequenceOrder.{top_above}
use Rattle.ftl_plan.proofs.cells.CellPlaces.{all_before, cells_before, next_before}
use Rattle.ftl_tree.proofs.rows.Access.{size-one}
use Rattle.ftl_plan.specs.phases.StagePhases.{cells_end}

module _ (g : AttributeGrammar) (t : Forest) (fits : IsTreeOf g t) where
  more : (m d : ℕ) → m + d ≤ size t → cells_before g t m ≤ cells_before g t (m + d)
  more m zero known =
      let e = ap (cells_before g t) (let z : m ≡ m + 0 = omega arith in z) in
      omega (arith, e)
  more m (suc d) known =
      let i = more m d (omega (arith, known)) in
      let next = next_before g t fits (m + d) (omega (arith, known)) in
      let e = ap (cells_before g t) (let z : m + suc d ≡ (m + d) + 1 = omega arith in z) in
      omega (arith, i, next, e)

  -- nodes before others have no more cells before them
  rises : (m n : ℕ) → m ≤ n → n ≤ size t → cells_before g t m ≤ cells_before g t n
  rises m n less known =
      let e : m + (n - m) ≡ n = omega (arith, less) in
      let up = more m (n - m) (omega (arith, e, known)) in
      subst (λ k. cells_before g t m ≤ cells_before g t k) e up

  -- the tree at a node ends within the whole tree
  pub ends_within : (p : Path) → Has t p → number_of t p + size_at t p ≤ size t
  ends_within p h =
      let one = size-one g t fits in
      ⊎_elim
      (λ same. subst (λ q. number_of t q + size_at t q ≤ size t) same (omega (arith, one)))
      (λ above. let range = (above_range t top p h above).1 in omega (arith, range, one)) (top_above p)

  pub few_cells : (p : Path) → Has t p → first_instance g t p ≤ instance_count g t
  few_cells p h =
      let all = all_before g t fits in
      let up = rises (number_of t p) (size t)
      (let less = number_of-lt t p h in let one = size-one g t fits in omega (arith, less, one)) (omega arith) in
      omega (arith, all, up)

  -- the cells of a node at or below another lie among those of the tree at that
  pub cells_within : (p : Path) (i : Instance) → AtOrAbove p i.node → IsInstance g t i
      → (first_instance g t p ≤ instance_number g t i) × (instance_number g t i < cells_end g t p)
  cells_within p i above valid =
      let q = i.node in
      let n = number_of t q in
      let range : (number_of t p ≤ n) × (n + size_at t q ≤ number_of t p + size_at t p) =
      ⊎_elim
      (λ same. subst (λ r. (number_of t r ≤ n) × (n + size_at t q ≤ number_of t r + size_at t r)) (sym same)
      (omega arith, omega arith))
      (λ far.
      let r = above_range t p q valid.0 far in
      let first = r.0 in
      (omega (arith, first), r.1)) above in
      let low = range.0 in
      let high = range.1 in
      let one = size-one g t fits in
      let number = number_of-lt t q valid.0 in
      let known : n < size t = omega (arith, number, one) in
      let within = place_within (attributes_of g (class_at t q)) i.attribute valid.1 in
      let width = ap (width_at g t) (node_at-number_of t q valid.0) in
      let next = next_before g t fits n known in
      let from = rises (number_of t p) n low (omega (arith, known)) in
      let there = above_there p q above valid.0 in
      let to = rises (n + 1) (number_of t p + size_at t p) (omega (arith, high)) (ends_within p there) in
      (omega (arith, from), omega (arith, within, width, next, to))
    where
      above_there : (p q : Path) → AtOrAbove p q → Has t q → Has t p
      above_there p q above h = has_above t p q h above
