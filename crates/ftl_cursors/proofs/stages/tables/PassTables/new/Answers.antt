use Rattle.std.proofs.Common.{◌≡◌, ℕ, ◌+◌, ◌<◌, List, [], ◌∷◌, ◌++◌, get_or, length, map, take, sym, ◌∙◌, ap, ap₂}
use Rattle.std.proofs.lemmas.List.{map_push, take_more}
use Rattle.std.proofs.lemmas.List.FromFn.{length-map-range_with_len}
use Rattle.ftl_deps.specs.reads.Meant.{meant}
use Rattle.ftl_meaning.specs.faults.Checked.{CheckedGrammar}
use Rattle.ftl_cursors.specs.sequence.BlockPlaces.{places_of}
use Rattle.ftl_cursors.specs.stages.PassTables.{pass_places, pass_visits}
use Rattle.ftl_visit.specs.visits.Visits.{visit_of}
use Rattle.ftl_visit.specs.passes.VisitRows.{visits_of}
use Rattle.ftl_cursors.proofs.stages.tables.PassTables.new.Goals as goal

-- one more entry of a table
pushed : {X Y : Type 0} (f : X → Y) (xs : List X) (n : ℕ) (x : X) (y : Y) (old new : List Y) → n < length xs
    → x ≡ get_or xs n x → y ≡ f x → old ≡ map f (take n xs) → new ≡ old ++ y ∷ [] → new ≡ map f (take (n + 1) xs)
pushed f xs n x y old new below here is known grown =
    grown
    ∙ ap₂ (λ ys z. ys ++ z ∷ []) known (is ∙ ap f here)
    ∙ sym (ap (map f) (take_more xs n x below) ∙ map_push f (take n xs) (get_or xs n x))

pub new-requires-in-loop-pass : goal.new-requires-in-loop-pass
new-requires-in-loop-pass c =
    let g = meant c.args.index.now in
    let pass = c.pass-item.result in
    record {
      visits =
          ap length c.in_ok-of_pass.ensures.visits
          ∙ length-map-range_with_len (visit_of g pass.kind c.as_slice.result.now) 0 g.class_count
          ∙ ap (λ (x : CheckedGrammar). (meant x).class_count) (sym c.checked.ensures.grammar);
    }

pub loop-pass-preserved : goal.loop-pass-preserved
loop-pass-preserved c =
    let g = meant c.args.index.now in
    let passes = c.args.passes.now in
    let n = c.loop-pass.pass-index in
    let pass = c.pass-item.result in
    let below = c.loop-pass-test.true in
    let of_pass : c.in_ok-of_pass.of_pass ≡ pass_visits g pass =
    c.in_ok-of_pass.ensures.visits ∙ ap (visits_of g pass.kind) c.as_slice.ensures in (
      pushed (pass_visits g) passes n pass c.in_ok-of_pass.of_pass c.loop-pass.visits.items
          c.push-in-loop-pass.new.self.items below c.pass-item.is of_pass c.loop-pass.invariant.0
          c.in_ok-push-2.ensures.items,
      pushed (pass_places g) passes n pass c.in_ok-new.field-0 c.loop-pass.places.items c.push.new.self.items below
          c.pass-item.is (c.in_ok-new.ensures.places ∙ ap places_of of_pass) c.loop-pass.invariant.1
          c.in_ok-push.ensures.items,
    )
