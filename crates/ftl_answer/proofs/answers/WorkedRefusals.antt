-- Refusals that were typed by hand.
use Rattle.std.proofs.Common.{◌≡◌, inl, inr, refl, sym, ap, [], ◌∷◌, Err}
use Rattle.std.specs.Prelude.{codes}
use Rattle.std.proofs.lemmas.Bool.{cond-true}
use Rattle.std.proofs.lemmas.Str.{IsUtf8-nil, is_utf8-from_IsUtf8}
use Rattle.ftl_page.specs.declared.sections.fault.PageFault.TheVariants.{BadVersion}
use Rattle.ftl_answer.specs.refusals.PageLines.{page_line}
use Rattle.ftl_page.specs.sections.Lines.{lines_of}
use Rattle.ftl_page.specs.sections.Page.{page_of, page_of_text}
use Rattle.ftl_page.specs.declared.commands.command.Command.TheVariants as command
use Rattle.ftl_page.proofs.commands.WorkedWords as worked
use Rattle.ftl_answer.specs.answers.Answer.{Answer, refused}
use Rattle.ftl_answer.specs.answers.Answers.{IsAnswer, command_in, rules_alone}
use Rattle.ftl_answer.specs.answers.Stages.{result_outcome}

abbrev bad_words : Answer
bad_words = refused 2 (codes "refused words")

abbrev no_version : Answer
no_version = refused 4 (codes "refused page: first line is not %page 1")

pub nothing : IsAnswer [] [] bad_words
nothing = inl (bad_words, refl, refl)

pub unknown : IsAnswer (codes "fly" ∷ []) [] bad_words
unknown = inl (bad_words, sym (ap command_in worked.not_unknown), refl)

-- an empty text names no version
no_first_line : page_of [] rules_alone ≡ Err BadVersion
unfolding page_of page_of_text lines_of
no_first_line = cond-true _ _ _ (is_utf8-from_IsUtf8 [] IsUtf8-nil)

pub empty_page : IsAnswer (codes "check" ∷ []) [] no_version
empty_page =
    inr (command.Check, sym (ap command_in worked.is_check), inl (no_version, sym (ap (result_outcome (λ fault. refused 4 (page_line fault))) no_first_line), refl))
