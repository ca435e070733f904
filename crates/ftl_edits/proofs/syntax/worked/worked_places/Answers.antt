-- The reader computes where each text goes wrong.
use Rattle.std.proofs.Common.{[], ◌∷◌, refl}
use Rattle.ftl_tokens.specs.declared.scanner.kind.Kind.TheVariants as kind
use Rattle.ftl_tokens.specs.scanner.Tokenized.{name, number, fixed}
use Rattle.ftl_tokens.specs.reading.Place.{place_of}
use Rattle.ftl_tokens.specs.reading.Reader.{next_kind, rest_of, same_kind, is_at, expect, take_name, take_number}
use Rattle.ftl_tokens.specs.reading.Reader.{at_end, chain}
use Rattle.ftl_edits.specs.syntax.Reading.{value, edit, more_edit, edits}
use Rattle.ftl_edits.specs.syntax.Worked.{sign_twice, without_end, named_node, mark_twice}
use Rattle.std.proofs.Common.{codes}
use Rattle.ftl_edits.proofs.syntax.Edits.{is_no_edits}
use Rattle.ftl_edits.proofs.syntax.worked.worked_places.Goals as goal

pub returns-clause-sign : goal.returns-clause-sign
unfolding place_of next_kind rest_of same_kind is_at expect take_name take_number at_end chain
    value edit more_edit edits
returns-clause-sign c =
    is_no_edits sign_twice (fixed kind.Minus ∷ number 2 ∷ fixed kind.Semicolon ∷ []) 3 5 refl refl refl

pub returns-clause-end : goal.returns-clause-end
unfolding place_of next_kind rest_of same_kind is_at expect take_name take_number at_end chain
    value edit more_edit edits
returns-clause-end c = is_no_edits without_end [] 0 7 refl refl refl

pub returns-clause-name : goal.returns-clause-name
unfolding place_of next_kind rest_of same_kind is_at expect take_name take_number at_end chain
    value edit more_edit edits
returns-clause-name c =
    is_no_edits named_node
    (name (codes "a") ∷ fixed kind.Dot ∷ name (codes "b") ∷ fixed kind.Equals ∷ number 1 ∷ fixed kind.Semicolon ∷ [])
    6 1 refl refl refl

pub returns-clause-mark : goal.returns-clause-mark
unfolding place_of next_kind rest_of same_kind is_at expect take_name take_number at_end chain
    value edit more_edit edits
returns-clause-mark c = is_no_edits mark_twice (fixed kind.Semicolon ∷ []) 1 6 refl refl refl
