use Rattle.std.proofs.Common.{ℕ, ◌<◌, [], get_or}
use Rattle.ftl_cursors.specs.classes.ClassSets.{HasVisited}
use Rattle.ftl_cursors.proofs.item_cursor.visited.visited_in.Given as goal

abbrev pub invariant-loop-pass : goal.invariant-loop-pass
invariant-loop-pass l = (m : ℕ) → m < l.pass → HasVisited l.set (get_or l.tables.visits.now m [])
