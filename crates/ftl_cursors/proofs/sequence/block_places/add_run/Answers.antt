use Rattle.std.proofs.Common.{◌≡◌, ℕ, ◌∷◌, ◌++◌, [], List, arith, ap₂, ◌∙◌, length}
use Rattle.std.proofs.lemmas.Grind.{common_steps}
use Rattle.ftl_visit.specs.passes.Runs.{runs}
use Rattle.ftl_visit.proofs.passes.RunLemmas.{runs_more}
use Rattle.ftl_cursors.specs.sequence.BlockPlaces.{places_in}
use Rattle.ftl_cursors.specs.declared.sequence.block_places.BlockPlaces.{BlockPlaces}
use Rattle.ftl_cursors.proofs.sequence.block_places.add_run.Goals as goal

pub returns-clause-added : goal.returns-clause-added
returns-clause-added c =
    let starts = c.args.starts.now.items in
    let places = c.args.places.now.items in
    let added = places_in c.args.visit.now in
    let longer : c.add_places.new.places.items ≡ places ++ added = grind (arith, common_steps) in
    let more : c.push.new.self.items ≡ starts ++ length (places ++ added) ∷ [] = grind (arith, common_steps) in
    ap₂ (λ (s : List ℕ) (x : List BlockPlaces). runs s x) more longer ∙ runs_more starts places added c.requires.cut
