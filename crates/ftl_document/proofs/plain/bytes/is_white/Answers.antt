use Rattle.std.proofs.Common.{ℕ, Bool, ◌&&◌, ◌||◌, eqb, refl, arith}
use Rattle.std.specs.Prelude.{nat_lt}
use Rattle.std.specs.Char.{is_ascii_alphanumeric}
use Rattle.ftl_tokens.specs.declared.scanner.run.Run.TheVariants.{White}
use Rattle.ftl_tokens.specs.scanner.Run.{byte_goes_on}
use Rattle.ftl_tokens.proofs.scanner.TableLemmas.{agree_below, from_table}
use Rattle.ftl_document.specs.declared.plain.bytes.TheConstants.{CLASS}
use Rattle.ftl_document.proofs.plain.bytes.is_white.Goals as goal

abbrev continues : ℕ → Bool
continues byte = nat_lt byte 128 && (is_ascii_alphanumeric byte || eqb byte 95)

pub returns : goal.returns
unfolding agree_below
returns c = record { white = from_table CLASS 1 (byte_goes_on White) c.args.byte (omega arith) refl }
