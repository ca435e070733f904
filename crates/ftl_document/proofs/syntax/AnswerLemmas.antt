-- Each text has one answer.
use Rattle.std.proofs.Common.{◌≡◌, ◌≢◌, ℕ, ◌-◌, ◌<◌, ◌≤◌, length, Result, Ok, Err, ◌⊎◌, inl, inr, refl, sym, ap, ◌∙◌, arith}
use Rattle.std.proofs.lemmas.Bool.{cases_lt}
use Rattle.ftl_tokens.specs.scanner.Tokenized.{WideTokenized, symbols_of}
use Rattle.ftl_tokens.specs.reading.Reader.{ReadResult, AreAtMost}
use Rattle.ftl_tokens.specs.reading.Depth.{IsTooDeepAt}
use Rattle.ftl_tokens.specs.reading.Place.{place_of}
use Rattle.ftl_tokens.proofs.reading.DepthOnce.{not_shallow, one_too_deep, too_deep_or_shallow}
use Rattle.ftl_tokens.proofs.reading.PlacesOnce.{one_place}
use Rattle.ftl_document.specs.declared.syntax.fault.WrittenDocumentFault.{WrittenDocumentFault}
use Rattle.ftl_document.specs.declared.syntax.fault.WrittenDocumentFault.TheVariants.{TooDeep, TooManyNodes, Syntax}
use Rattle.ftl_document.specs.declared.syntax.fault.WrittenDocumentFault.TheVariants.{OutOfMemory}
use Rattle.ftl_document.specs.syntax.Written.{WrittenNode}
use Rattle.ftl_document.specs.syntax.Rows.{DocumentRows, document_rows, rows_of_fields}
use Rattle.ftl_model.specs.layout.Limits.{most_nodes}
use Rattle.ftl_document.specs.syntax.Braces.{braces, deepest}
use Rattle.ftl_document.specs.syntax.Read.{IsNotTooDeep, opened_in, ReadsDocument}
use Rattle.ftl_document.specs.syntax.RowReading.{document}
use Rattle.ftl_document.proofs.syntax.Documents.{one_document, is_document, is_no_document}

-- an answer that is not want of memory
abbrev pub Answer : WideTokenized → Type 0
Answer s = (answer : Result DocumentRows WrittenDocumentFault) × (answer ≢ Err OutOfMemory) × ReadsDocument s answer

-- within the limits, by what the reading function gives
within_limits : (s : WideTokenized) → length s.tokenized.tokens ≤ 4294967295 → AreAtMost s.greatest (symbols_of s.tokenized)
    → IsNotTooDeep s.tokenized → opened_in s.tokenized ≤ most_nodes → Answer s
within_limits s short small shallow few = by (document (symbols_of s.tokenized)) refl
  where
    by : (given : ReadResult DocumentRows) → document (symbols_of s.tokenized) ≡ given → Answer s
    by (Ok (d, left)) e = (Ok d, (λ memory. cc), is_document s d left shallow few short small e)
    by (Err rest) e =
        let at = place_of s.tokenized.tokens (length s.tokenized.tokens - length rest) in
        (Err (Syntax at), (λ memory. cc), is_no_document s.tokenized rest (length rest) at shallow few e refl refl)

-- a text that is not too deep
shallow_answer : (s : WideTokenized) → length s.tokenized.tokens ≤ 4294967295 → AreAtMost s.greatest (symbols_of s.tokenized)
    → IsNotTooDeep s.tokenized → Answer s
shallow_answer s short small shallow = by (cases_lt most_nodes (opened_in s.tokenized))
  where
    by : (most_nodes < opened_in s.tokenized) ⊎ (opened_in s.tokenized ≤ most_nodes) → Answer s
    by (inl many) =
        (Err (TooManyNodes (opened_in s.tokenized)), (λ memory. cc), record { shallow = shallow; many = many; exact = refl })
    by (inr few) = within_limits s short small shallow few

-- a text whose tokens 32 bits count, with no number above its greatest, has an answer
pub some_answer : (s : WideTokenized) → length s.tokenized.tokens ≤ 4294967295
    → AreAtMost s.greatest (symbols_of s.tokenized) → Answer s
some_answer s short small = by (too_deep_or_shallow braces deepest s.tokenized)
  where
    by : ((at : ℕ) × IsTooDeepAt braces deepest s.tokenized at) ⊎ IsNotTooDeep s.tokenized → Answer s
    by (inl deep) = (Err (TooDeep deep.0), (λ memory. cc), deep.1)
    by (inr shallow) = shallow_answer s short small shallow

-- and no other
pub any_two_answers : (s : WideTokenized) (answer other : Result DocumentRows WrittenDocumentFault)
    → answer ≢ Err OutOfMemory → other ≢ Err OutOfMemory → ReadsDocument s answer → ReadsDocument s other
    → answer ≡ other
any_two_answers s (Ok d) (Ok e) told other_told a b =
    let same = one_document (symbols_of s.tokenized) a.node b.node a.spells b.spells in
    ap Ok (a.is ∙ ap (λ (n : WrittenNode). document_rows n.class (rows_of_fields n.fields)) same ∙ sym b.is)
any_two_answers s (Ok d) (Err (TooDeep at)) told other_told a b =
    absurd (not_shallow braces deepest s.tokenized b a.shallow)
any_two_answers s (Ok d) (Err (TooManyNodes count)) told other_told a b = absurd (omega (arith, a.few, b.many, b.exact))
any_two_answers s (Ok d) (Err (Syntax at)) told other_told a b = absurd (b.none a.node a.spells)
any_two_answers s (Err (TooDeep at)) (Ok d) told other_told a b =
    absurd (not_shallow braces deepest s.tokenized a b.shallow)
any_two_answers s (Err (TooDeep at)) (Err (TooDeep there)) told other_told a b =
    ap (λ k. Err (TooDeep k)) (one_too_deep braces deepest s.tokenized a b)
any_two_answers s (Err (TooDeep at)) (Err (TooManyNodes count)) told other_told a b =
    absurd (not_shallow braces deepest s.tokenized a b.shallow)
any_two_answers s (Err (TooDeep at)) (Err (Syntax there)) told other_told a b =
    absurd (not_shallow braces deepest s.tokenized a b.shallow)
any_two_answers s (Err (TooManyNodes count)) (Ok d) told other_told a b = absurd (omega (arith, b.few, a.many, a.exact))
any_two_answers s (Err (TooManyNodes count)) (Err (TooDeep at)) told other_told a b =
    absurd (not_shallow braces deepest s.tokenized b a.shallow)
any_two_answers s (Err (TooManyNodes count)) (Err (TooManyNodes other)) told other_told a b =
    ap (λ k. Err (TooManyNodes k)) (a.exact ∙ sym b.exact)
any_two_answers s (Err (TooManyNodes count)) (Err (Syntax at)) told other_told a b =
    absurd (omega (arith, b.few, a.many, a.exact))
any_two_answers s (Err (Syntax at)) (Ok d) told other_told a b = absurd (a.none b.node b.spells)
any_two_answers s (Err (Syntax at)) (Err (TooDeep there)) told other_told a b =
    absurd (not_shallow braces deepest s.tokenized b a.shallow)
any_two_answers s (Err (Syntax at)) (Err (TooManyNodes count)) told other_told a b =
    absurd (omega (arith, a.few, b.many, b.exact))
any_two_answers s (Err (Syntax at)) (Err (Syntax there)) told other_told a b =
    ap (λ k. Err (Syntax k)) (one_place a.place b.place)
any_two_answers s (Err OutOfMemory) other told other_told a b = absurd (told refl)
any_two_answers s answer (Err OutOfMemory) told other_told a b = absurd (other_told refl)
