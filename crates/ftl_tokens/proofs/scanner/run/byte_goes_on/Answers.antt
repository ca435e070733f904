use Rattle.std.proofs.Common.{ℕ, Bool, ◌&&◌, ◌||◌, eqb, refl, sym, ap, ◌∙◌, arith}
use Rattle.std.specs.Prelude.{nat_lt}
use Rattle.std.specs.Char.{is_ascii_alphanumeric}
use Rattle.ftl_tokens.specs.declared.scanner.run.TheConstants.{CLASS}
use Rattle.ftl_tokens.specs.declared.scanner.run.Run.TheVariants.{White, Digits, Comment}
use Rattle.ftl_tokens.specs.scanner.Run.{byte_goes_on}
use Rattle.ftl_tokens.proofs.scanner.KindLemmas.{continues-ascii}
use Rattle.ftl_tokens.proofs.scanner.TableLemmas.{agree_below, from_table}
use Rattle.ftl_tokens.proofs.scanner.run.byte_goes_on.Goals as goal

abbrev continues : ℕ → Bool
continues byte = nat_lt byte 128 && (is_ascii_alphanumeric byte || eqb byte 95)

pub returns-in-White : goal.returns-in-White
unfolding agree_below
returns-in-White c = record {
  goes =
      from_table CLASS 1 (byte_goes_on White) c.args.byte (omega arith) refl
      ∙ ap (λ run. byte_goes_on run c.args.byte) (sym c.in-White.is);
}

pub returns-in-Word : goal.returns-in-Word
unfolding agree_below
returns-in-Word c = record {
  goes =
      from_table CLASS 2 continues c.args.byte (omega arith) refl
      ∙ continues-ascii c.args.byte ∙ ap (λ run. byte_goes_on run c.args.byte) (sym c.in-Word.is);
}

pub returns-in-Digits : goal.returns-in-Digits
unfolding agree_below
returns-in-Digits c = record {
  goes =
      from_table CLASS 4 (byte_goes_on Digits) c.args.byte (omega arith) refl
      ∙ ap (λ run. byte_goes_on run c.args.byte) (sym c.in-Digits.is);
}

pub returns-in-Comment : goal.returns-in-Comment
unfolding agree_below
returns-in-Comment c = record {
  goes =
      from_table CLASS 8 (byte_goes_on Comment) c.args.byte (omega arith) refl
      ∙ ap (λ run. byte_goes_on run c.args.byte) (sym c.in-Comment.is);
}
