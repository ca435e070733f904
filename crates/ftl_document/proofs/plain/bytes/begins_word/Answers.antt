use Rattle.std.proofs.Common.{ℕ, Bool, ◌&&◌, ◌||◌, eqb, refl, ◌∙◌, arith}
use Rattle.std.specs.Prelude.{nat_lt}
use Rattle.std.specs.Char.{is_ascii_alphabetic}
use Rattle.ftl_tokens.proofs.scanner.KindLemmas.{begins-ascii}
use Rattle.ftl_tokens.proofs.scanner.TableLemmas.{agree_below, from_table}
use Rattle.ftl_document.specs.declared.plain.bytes.TheConstants.{CLASS}
use Rattle.ftl_document.proofs.plain.bytes.begins_word.Goals as goal

abbrev begins : ℕ → Bool
begins byte = nat_lt byte 128 && (is_ascii_alphabetic byte || eqb byte 95)

pub returns : goal.returns
unfolding agree_below
returns c = record { begins = from_table CLASS 16 begins c.args.byte (omega arith) refl ∙ begins-ascii c.args.byte }
