use Rattle.std.proofs.Common.{◌≡◌, ◌++◌, [], ◌∙◌, refl, sym, ap, drop, arith, List, Option, Some, None}
use Rattle.std.specs.Prelude.{IsNone}
use Rattle.std.specs.Option.{option_to_list}
use Rattle.ftl_document.specs.declared.nodes.stack.Region.{Region}
use Rattle.ftl_document.proofs.nodes.Handed.{ended_on}
use Rattle.ftl_document.proofs.nodes.Regions.{inside, region_ended, walk_ended}
use Rattle.ftl_document.proofs.nodes.NextSteps.{row_within}
use Rattle.ftl_document.proofs.nodes.walk.Walk.finish.Goals as goal

-- what is left of a stack without its innermost region
popped : (o : Option Region) (old new : List Region) → old ≡ option_to_list o ++ new → (IsNone o → old ≡ [])
    → drop 1 old ≡ new
popped None old new is ended = ap (drop 1) (ended refl) ∙ sym (ended refl) ∙ is
popped (Some r) old new is ended = ap (drop 1) is

pub loop-region-smaller-in-Continue-1 : goal.loop-region-smaller-in-Continue-1
loop-region-smaller-in-Continue-1 c =
    let w = c.loop-region.invariant.walked in
    let p = c.loop-region.progress in
    let within =
    row_within c.args.self.now.checked.now.grammar w.node c.args.self.now.rows.now p c.in-Some.region
    (record { outer = drop 1 p.stack; stack = c.in-Some.ensures.innermost; more = c.if-progress-region.true }) w.walked in
    let at = c.in_ok-step.ensures.at in
    let few = c.in_ok-step.ensures.few in
    omega (arith, within, at, few)

pub returns-in_err-step : goal.returns-in_err-step
returns-in_err-step c =
    let g = c.args.self.now.checked.now.grammar in
    record {
      exact = λ node h.
          ended_on g node c.in_err-step.field-0.0 c.from_residual.result _ c.from_residual.ensures.1
          (c.in_err-step.ensures.exact node (c.loop-region.invariant.same node h));
    }

pub loop-region-preserved : goal.loop-region-preserved
loop-region-preserved c =
    let g = c.args.self.now.checked.now.grammar in
    let xs = c.args.self.now.rows.now in
    let p = c.loop-region.progress in
    let r = c.in-Some.region in
    let outer = drop 1 p.stack in
    let w = c.loop-region.invariant.walked in
    let first = inside g w.node xs p r outer w.walked c.in-Some.ensures.innermost in
    let left = sym (popped c.pop.result p.stack c.pop.new.self c.pop.ensures.popped c.pop.ensures.ended) in
    record {
      walked = record {
        node = w.node;
        walked = region_ended g w.node xs p r outer first.0 _ first.1 c.if-progress-region.false
            (record { stack = left; at = refl; number = refl; count = refl; rows = refl; inputs = refl });
      };
      same = λ node h.
          let i = inside g node xs p r outer (c.loop-region.invariant.same node h) c.in-Some.ensures.innermost in
          region_ended g node xs p r outer i.0 _ i.1 c.if-progress-region.false
          (record { stack = left; at = refl; number = refl; count = refl; rows = refl; inputs = refl });
    }

pub returns : goal.returns
returns c =
    record {
      exact = λ node h.
          let whole = walk_ended c.args.self.now.checked.now.grammar node c.args.self.now.rows.now c.loop-region.progress
          (c.loop-region.invariant.same node h) (c.in_default.ensures.ended refl) in
          record { none = whole.none; count = whole.count; node_rows = whole.node_rows; inputs = whole.inputs };
    }
