-- From the last node to the first, each node's end is known once it is handed on.
use Rattle.std.proofs.Common.{◌≡◌, ◌+◌, ◌-◌, ap, arith, get_or, length, subst, suc, sym, ◌∙◌, ℕ, List}
use Rattle.std.proofs.lemmas.List.{length-set}
use Rattle.std.proofs.lemmas.List.FromFn.{length-range_with_len}
use Rattle.ftl_model.specs.layout.Path.{number_of}
use Rattle.ftl_tree.specs.declared.rows.row.NodeRow.{NodeRow}
use Rattle.ftl_tree.proofs.rows.Ends.{Ends, more_ends, no_ends}
use Rattle.ftl_tree.proofs.rows.KidRows.{ends_are, get-range, kid_row, length_rows}
use Rattle.ftl_tree.proofs.rows.Raised.{raised}
use Rattle.ftl_tree.proofs.rows.sizes.hand_on_ends.Goals as goal

abbrev no_row : NodeRow
no_row = record { class = 0; parent = 0; place = record { child = 0; kid = 0 } }

pub loop-back-init : goal.loop-back-init
loop-back-init c =
    let rows = c.args.rows.now in
    record {
      count = ap length c.requires.own ∙ length-range_with_len 1 (length rows);
      ends = λ g t h.
          let known = length_rows g t rows h in
          no_ends g t c.args.ends.now (length rows + 1 - 1) h.is_tree (omega (arith, known))
          (ap length c.requires.own ∙ length-range_with_len 1 (length rows) ∙ known)
          (λ m k. ap (λ xs. get_or xs m 0) c.requires.own ∙ get-range (length rows) m (omega (arith, k, known)));
    }

pub raise-requires : goal.raise-requires
raise-requires c =
    let g = c.requires.rows.0 in
    let t = c.requires.rows.1.0 in
    let h = c.requires.rows.1.1 in
    let known = length_rows g t c.args.rows.now h in
    let kid = kid_row g t c.args.rows.now (length c.args.rows.now - c.loop-back.back) no_row h (omega (arith, c.loop-back-test.true)) (omega (arith, c.loop-back-test.true, known, c.loop-back.auto.back)) in
    record { place = omega (arith, kid.parent_is, kid.parent_known, known, c.loop-back.invariant.count) }

pub loop-back-preserved : goal.loop-back-preserved
loop-back-preserved c =
    let rows = c.args.rows.now in
    let node = length rows - c.loop-back.back in
    record {
      count = ap length c.raise.ensures.raised ∙ length-set c.loop-back.ends _ _ ∙ c.loop-back.invariant.count;
      ends = λ g t h.
          let known = length_rows g t rows h in
          let kid = kid_row g t rows node no_row h (omega (arith, c.loop-back-test.true)) (omega (arith, c.loop-back-test.true, known, c.loop-back.auto.back)) in
          let before : length rows + 1 - c.loop-back.back ≡ suc node = omega (arith, c.loop-back-test.true) in
          let after : length rows + 1 - (c.loop-back.back + 1) ≡ node = omega (arith, c.loop-back-test.true) in
          let new = c.raise.ensures.raised ∙ ap (λ m. raised c.loop-back.ends m (get_or c.loop-back.ends node 0)) kid.parent_is in
          let more = more_ends t c.loop-back.ends kid.child kid.kid kid.above kid.has node kid.number (omega (arith, kid.parent_known, known, c.loop-back.invariant.count))
          (subst (λ (n : ℕ). Ends t c.loop-back.ends n) before (c.loop-back.invariant.ends g t h)) in
          subst (λ (xs : List ℕ). Ends t xs (length rows + 1 - (c.loop-back.back + 1))) (sym new)
          (subst (λ (n : ℕ). Ends t (raised c.loop-back.ends (number_of t kid.above) (get_or c.loop-back.ends node 0)) n) (sym after) more);
    }

pub returns : goal.returns
returns c = record {
  ends = λ g t h.
      ends_are g t c.loop-back.ends (length c.args.rows.now + 1 - c.loop-back.back) h.is_tree (c.loop-back.invariant.ends g t h)
      (omega (arith, c.loop-back-test.false));
}
