-- Where the cells of nodes begin, and what stands at a cell.
use Rattle.std.proofs.Common.{◌≡◌, ℕ, ◌+◌, ◌-◌, ◌<◌, ◌≤◌, true, false, length, get_or, take, sum_by, refl, sym, ◌∙◌, ap, arith}
use Rattle.std.proofs.lemmas.List.{take_all}
use Rattle.std.proofs.lemmas.List.Elements.{Contains-get_or}
use Rattle.std.proofs.lemmas.List.Sums.{sum_by_more}
use Rattle.ftl_model.proofs.lists.Places.{place_of_entry}
use Rattle.ftl_model.specs.layout.AttributeGrammar.{AttributeGrammar, Sort, attributes_of, inherited, input, is_input, local, synthesized}
use Rattle.ftl_model.specs.layout.Path.{class_at, node_at, preorder, top}
use Rattle.ftl_model.specs.layout.Table.{first_instance, instance_count, instances, width_at}
use Rattle.ftl_model.specs.layout.Tree.{Forest, size}
use Rattle.ftl_model.specs.layout.TreeOf.{IsTreeOf}
use Rattle.ftl_model.proofs.layout.Numbering.{length-preorder, number_of-node_at}
use Rattle.ftl_order.specs.orders.Lawful.{IsLawful}
use Rattle.ftl_order.proofs.orders.Instances.{instance_at_number}
use Rattle.ftl_order.proofs.orders.Owners.{class_distinct}
use Rattle.ftl_step_value.proofs.limits.reads.Entries.{class_in_range, there, whole}
use Rattle.ftl_items.specs.stage_items.StageWork.{kind_by, kind_by_stage, no_instance}
use Rattle.ftl_plan.specs.cells.NodeCells.{IsCellOf}

-- how many cells the nodes before this one have
abbrev pub cells_before : AttributeGrammar → Forest → (node : ℕ) → ℕ
cells_before g t n = sum_by (width_at g t) (take n (preorder t))

module _ (g : AttributeGrammar) (t : Forest) (fits : IsTreeOf g t) where
  pub first_is : (n : ℕ) → n < size t → first_instance g t (node_at t n) ≡ cells_before g t n
  first_is n known =
      let all = whole g t fits in ap (cells_before g t) (number_of-node_at t n (omega (arith, all, known)))

  pub nodes : length (preorder t) ≡ size t
  nodes = let e = length-preorder t in let all = whole g t fits in omega (arith, e, all)

  pub all_before : cells_before g t (size t) ≡ instance_count g t
  all_before = ap (sum_by (width_at g t)) (take_all (size t) (preorder t) (let e = nodes in omega (arith, e)))

  pub next_before : (n : ℕ) → n < size t → cells_before g t (n + 1) ≡ cells_before g t n + width_at g t (node_at t n)
  next_before n known = sum_by_more (width_at g t) (preorder t) n top (let e = nodes in omega (arith, e, known))

  pub is_cell : (n cell : ℕ) → n < size t → cells_before g t n ≤ cell → cell < cells_before g t (n + 1)
      → IsCellOf g t n cell
  is_cell n cell known from to =
      let first = first_is n known in
      let next = next_before n known in
      record {
        known = known;
        from = omega (arith, first, from);
        to = omega (arith, first, next, to);
      }

  -- the attribute of the instance that stands at a cell
  pub attribute_here : IsLawful g → (n cell : ℕ) → IsCellOf g t n cell
      → (get_or (instances g t) cell no_instance).attribute
      ≡ get_or (attributes_of g (class_at t (node_at t n))) (cell - first_instance g t (node_at t n)) 0
  attribute_here law n cell is =
      let p = node_at t n in
      let these = attributes_of g (class_at t p) in
      let first = first_instance g t p in
      let from = is.from in
      let to = is.to in
      let within : cell - first < length these = omega (arith, from, to) in
      let place = place_of_entry these (class_distinct g law (class_at t p) (class_in_range g law t fits n is.known))
      (cell - first) 0 within in
      let number = ap (λ m. first + m) place in
      let here : first + (cell - first) ≡ cell = omega (arith, from) in
      ap (λ m. (get_or (instances g t) m no_instance).attribute) (sym (number ∙ here))
      ∙ ap (λ (i : _). i.attribute)
      (instance_at_number g t p (get_or these (cell - first) 0) no_instance (there g law t fits n is.known)
      (Contains-get_or these (cell - first) 0 within))

-- what is computed is of the kind of its stage
pub kind_computed : (sort : Sort) (its stage : ℕ) → is_input sort ≡ false
    → kind_by sort its stage ≡ kind_by_stage its stage
kind_computed input its stage is = absurd (let z : ⊥ = grind (arith, is) in z)
kind_computed inherited its stage is = refl
kind_computed synthesized its stage is = refl
kind_computed local its stage is = refl

-- an input is one
pub input_sort : (sort : Sort) → is_input sort ≡ true → sort ≡ input
input_sort input is = refl
input_sort inherited is = absurd (let z : ⊥ = grind (arith, is) in z)
input_sort synthesized is = absurd (let z : ⊥ = grind (arith, is) in z)
input_sort local is = absurd (let z : ⊥ = grind (arith, is) in z)
