use Rattle.std.specs.Str.Iter.{char_indices_rest, char_indices_offset}
use Rattle.ftl_tokens.specs.scanner.Run.{goes_on}
use Rattle.ftl_tokens.proofs.scanner.RunLemmas.{RunsThrough}
use Rattle.ftl_tokens.proofs.scanner.run.char_run_length.Given as goal

abbrev pub invariant-loop-place : goal.invariant-loop-place
invariant-loop-place l = record {
  can : (goal.iterator-loop-place).can_next l.place-iterator;
  finite : (goal.iterator-loop-place).is_finite l.place-iterator;
  runs : RunsThrough (goes_on l.run) l.text (char_indices_offset l.place-iterator) (char_indices_rest l.place-iterator);
}
