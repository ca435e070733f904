use Rattle.std.proofs.Common.{ap, ◌∙◌, sym, subst₂, string_bytes}
use Rattle.std.proofs.lemmas.Str.{IsUtf8-string_bytes}
use Rattle.ftl_tokens.specs.scanner.Scan.{scan}
use Rattle.ftl_tokens.specs.scanner.Tokenized.{AreTokensOf}
use Rattle.ftl_tokens.proofs.scanner.TokenLemmas.{are_tokens_of, are_tokens_of-wider}
use Rattle.ftl_tokens.proofs.scanner.scan.tokenized_text.Goals as goal
use Rattle.ftl_tokens.proofs.scanner.scan.tokenized_text.Goals.{In_ok-list}

scanned : (c : In_ok-list) → AreTokensOf c.args.greatest (string_bytes c.args.text) 0 c.in_ok-list.list.items
scanned c =
    let bytes = string_bytes c.args.text in
    are_tokens_of c.args.greatest bytes c.in_ok-list.list.items (IsUtf8-string_bytes c.args.text)
    (ap (scan c.args.greatest) (sym c.as_str.ensures.value) ∙ c.in_ok-list.ensures.exact)

-- the greatest number of the call is none above that of all texts
pub new-requires : goal.new-requires
new-requires c = record {
  tokens =
      are_tokens_of-wider c.args.greatest 140737488355327 (string_bytes c.args.text) 0 c.in_ok-list.list.items c.requires.limit (scanned c);
}

pub returns-clause-tokens : goal.returns-clause-tokens
returns-clause-tokens c =
    let here = (goal.at.returns-clause-tokens c).In_ok-list in
    subst₂ (λ text tokens. AreTokensOf c.args.greatest text 0 tokens) (sym c.new.ensures.text) (sym c.new.ensures.tokens) (scanned here)
