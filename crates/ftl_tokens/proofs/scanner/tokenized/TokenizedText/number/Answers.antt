use Rattle.std.specs.Prelude.{slice_get}
use Rattle.ftl_tokens.proofs.scanner.TokenLemmas.{slice_is_number, slice_value-small}
use Rattle.ftl_tokens.proofs.scanner.tokenized.TokenizedText.number.Goals as goal

-- the slice of a number is digits
pub number_of-requires-clause-number : goal.number_of-requires-clause-number
number_of-requires-clause-number c =
    slice_is_number 140737488355327 (slice_get c.args.self.now.tokens c.args.k) c.args.self.now.text c.slice.result.now c.requires.number
    c.slice.ensures.text c.slice.ensures.token c.slice.utf8

pub number_of-requires-clause-small : goal.number_of-requires-clause-small
number_of-requires-clause-small c =
    slice_value-small 140737488355327 c.args.self.now.text c.slice.result.now (slice_get c.args.self.now.tokens c.args.k) c.requires.number
    c.slice.ensures.text c.slice.ensures.token
