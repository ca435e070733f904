use Rattle.std.proofs.Common.{◌≡◌, take}
use Rattle.ftl_tokens.specs.scanner.Tokenized.{symbols_of}
use Rattle.ftl_page_printing.proofs.pages.alike.are_alike.Given as goal

-- the tokens so far say the same
abbrev pub invariant-loop-k : goal.invariant-loop-k
invariant-loop-k l = take l.k (symbols_of l.one) ≡ take l.k (symbols_of l.two)
