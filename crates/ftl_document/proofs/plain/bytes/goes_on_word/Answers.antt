use Rattle.std.proofs.Common.{ℕ, Bool, ◌&&◌, ◌||◌, eqb, refl, ◌∙◌, arith}
use Rattle.std.specs.Prelude.{nat_lt}
use Rattle.std.specs.Char.{is_ascii_alphanumeric}
use Rattle.ftl_tokens.proofs.scanner.KindLemmas.{continues-ascii}
use Rattle.ftl_tokens.proofs.scanner.TableLemmas.{agree_below, from_table}
use Rattle.ftl_document.specs.declared.plain.bytes.TheConstants.{CLASS}
use Rattle.ftl_document.proofs.plain.bytes.goes_on_word.Goals as goal

abbrev continues : ℕ → Bool
continues byte = nat_lt byte 128 && (is_ascii_alphanumeric byte || eqb byte 95)

pub returns : goal.returns
unfolding agree_below
returns c = record { goes = from_table CLASS 2 continues c.args.byte (omega arith) refl ∙ continues-ascii c.args.byte }
