use Rattle.std.proofs.Common.{◌≡◌, ◌++◌, ◌∙◌, ap, arith, drop, length, take}
use Rattle.std.proofs.lemmas.List.{take_at}
use Rattle.std.proofs.lemmas.List.FromFn.{length-range_with_len}
use Rattle.ftl_tree.proofs.rows.KidRows.{length_rows, number_below_end, sizes_are}
use Rattle.ftl_tree.proofs.rows.sizes.subtree_sizes.Goals as goal

pub own_ends-requires : goal.own_ends-requires
own_ends-requires c =
    let h = c.requires.rows.1.1 in
    record { count = omega (arith, length_rows c.requires.rows.0 c.requires.rows.1.0 c.args.rows.now h, h.few_nodes) }

pub take_off_numbers-requires-clause-count : goal.take_off_numbers-requires-clause-count
take_off_numbers-requires-clause-count c =
    let h = c.requires.rows.1.1 in
    omega (arith, c.deref_mut-2.ensures.len, ap length c.in_ok-ends.ensures.ends, length-range_with_len 1 (length c.args.rows.now), length_rows c.requires.rows.0 c.requires.rows.1.0 c.args.rows.now h, h.few_nodes)

pub take_off_numbers-requires-clause-ends : goal.take_off_numbers-requires-clause-ends
take_off_numbers-requires-clause-ends c =
    let g = c.requires.rows.0 in
    let t = c.requires.rows.1.0 in
    let h = c.requires.rows.1.1 in
    let new = c.hand_on_ends.new.ends in
    let same : length new ≡ c.in_ok-ends.ends.len = omega (arith, c.hand_on_ends.auto.ends, c.deref_mut.ensures.len) in
    let ends = c.deref_mut-2.ensures.value ∙ take_at new (drop (length new) c.in_ok-ends.ends.items) c.in_ok-ends.ends.len same ∙ c.hand_on_ends.ensures.ends g t h in
    λ n k. number_below_end g t c.deref_mut-2.result.now n h.is_tree ends k

pub returns : goal.returns
returns c =
    let new = c.hand_on_ends.new.ends in
    let last = c.take_off_numbers.new.ends in
    let same : length new ≡ c.in_ok-ends.ends.len = omega (arith, c.hand_on_ends.auto.ends, c.deref_mut.ensures.len) in
    let again : length last ≡ c.in_ok-ends.ends.len = omega (arith, c.take_off_numbers.auto.ends, c.deref_mut-2.ensures.len) in
    record {
      sizes = λ g t h.
          let ends = c.deref_mut-2.ensures.value ∙ take_at new (drop (length new) c.in_ok-ends.ends.items) c.in_ok-ends.ends.len same ∙ c.hand_on_ends.ensures.ends g t h in
          take_at last (drop (length last) (take c.in_ok-ends.ends.len (new ++ drop (length new) c.in_ok-ends.ends.items))) c.in_ok-ends.ends.len again
          ∙ sizes_are g t c.deref_mut-2.result.now last h.is_tree ends c.take_off_numbers.ensures.count c.take_off_numbers.ensures.sizes;
    }
