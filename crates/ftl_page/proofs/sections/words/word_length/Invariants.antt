use Rattle.std.proofs.Common.{◌≡◌, ◌+◌, drop}
use Rattle.std.specs.List.{position_or_len}
use Rattle.ftl_tokens.specs.scanner.Scan.{is_white_space}
use Rattle.ftl_page.proofs.sections.words.word_length.Given as goal

abbrev pub invariant-loop-place : goal.invariant-loop-place
invariant-loop-place l = position_or_len is_white_space l.line ≡ l.place + position_or_len is_white_space
    (drop l.place l.line)
