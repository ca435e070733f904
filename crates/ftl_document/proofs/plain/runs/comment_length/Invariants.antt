use Rattle.std.proofs.Common.{◌≡◌, ◌+◌, drop}
use Rattle.std.specs.List.{prefix_len}
use Rattle.ftl_tokens.specs.declared.scanner.run.Run.TheVariants.{Comment}
use Rattle.ftl_tokens.specs.scanner.Run.{byte_goes_on}
use Rattle.ftl_document.proofs.plain.runs.comment_length.Given as goal

abbrev pub invariant-loop-at : goal.invariant-loop-at
invariant-loop-at l =
    prefix_len (byte_goes_on Comment) l.bytes ≡ l.at + prefix_len (byte_goes_on Comment) (drop l.at l.bytes)
