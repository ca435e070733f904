use Rattle.std.proofs.Common.{◌≡◌, ◌+◌, ◌++◌, ◌∷◌, [], List, ℕ, suc, get_or, length, map, ap, ap₂, sym, ◌∙◌, arith}
use Rattle.std.proofs.lemmas.List.{length-map}
use Rattle.ftl_model.specs.layout.Path.{Path}
use Rattle.ftl_items.proofs.numbers.Places.{start_next}
use Rattle.ftl_schedule.specs.stages.Stages.{pass_of}
use Rattle.ftl_cursors.specs.items.HostRows.{AreCutAs, cut_in}
use Rattle.ftl_cursors.proofs.items.RowsByHost.{cut_is, number_known, tops_are}
use Rattle.ftl_cursors.proofs.items.Starts.{pass_kind, starts_more, starts_to}
use Rattle.ftl_cursors.proofs.items.stage.pass_starts.Goals as goal

pub bounds-cuts-number : goal.bounds-cuts-number
bounds-cuts-number c =
    let long = c.requires.numbers.count_is in
    let test = c.loop-number-test.true in
    omega (arith, long, test)

pub numbered-of_pass-requires : goal.numbered-of_pass-requires
numbered-of_pass-requires c =
    record {
      known =
          number_known c.args.rows.now (length c.args.passes.now) c.args.cuts.now c.requires.numbers c.loop-number.number
          c.loop-number-test.true;
    }

pub loop-number-preserved : goal.loop-number-preserved
loop-number-preserved c =
    let rows = c.args.rows.now in
    let t = rows.tree.now.tree in
    let passes = c.args.passes.now in
    let ps = map pass_of passes in
    let cuts = c.args.cuts.now in
    let n = c.loop-number.number in
    let inv = c.loop-number.invariant in
    let next = start_next (cut_in rows ps cuts) t n in
    let test = c.loop-number-test.true in
    let long = c.requires.numbers.count_is in
    let found = c.numbered-of_pass.result.now in
    let pass = c.index-passes-number.result in
    let kind = pass_kind passes n pass test in
    let cut : AreCutAs rows (cut_in rows ps cuts n) found =
    cut_is rows ps cuts n found (omega (arith, long, test)) c.numbered-of_pass.ensures.rows in
    let count = c.count-start.ensures.count
    ∙ ap (λ (qs : List Path). length qs) (tops_are rows (cut_in rows ps cuts n) found cut (get_or passes n pass).kind kind) in
    let most = c.count-start.ensures.bound in
    let start = inv.start in
    let bound = inv.bound in
    record {
      starts =
          c.in_ok-push.ensures.items
          ∙ ap₂ (λ (ns : List ℕ) m. ns ++ m ∷ []) inv.starts inv.start
          ∙ sym (starts_more (length ps) (cut_in rows ps cuts) t n);
      start = omega (arith, start, count, next);
      bound = omega (arith, bound, most);
    }

pub returns : goal.returns
returns c =
    let rows = c.args.rows.now in
    let t = rows.tree.now.tree in
    let ps = map pass_of c.args.passes.now in
    let cuts = cut_in rows ps c.args.cuts.now in
    let n = c.loop-number.number in
    let inv = c.loop-number.invariant in
    let past = c.loop-number-test.false in
    let most = c.loop-number.auto.number-end in
    let count = length-map c.args.passes.now pass_of in
    let end : n + 1 ≡ suc (length ps) = omega (arith, past, most, count) in
    record {
      starts = record {
        starts_are =
            c.in_ok-push-2.ensures.items
            ∙ ap₂ (λ (ns : List ℕ) m. ns ++ m ∷ []) inv.starts inv.start
            ∙ sym (starts_more (length ps) cuts t n)
            ∙ ap (starts_to (length ps) cuts t) end;
        few = (let few = c.requires.few in omega (arith, few, count));
      };
    }
