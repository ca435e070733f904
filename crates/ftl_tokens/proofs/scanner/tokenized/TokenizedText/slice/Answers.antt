use Rattle.std.proofs.Common.{◌≡◌, ◌<◌, length, Some, sym, refl, ap, ◌∙◌, subst, arith}
use Rattle.std.specs.Prelude.{slice_get, IfSome}
use Rattle.std.specs.Str.{IsCharBoundary}
use Rattle.std.proofs.lemmas.Option.{slice_get_read}
use Rattle.ftl_tokens.specs.scanner.Tokenized.{IsTokenOf, AreTokensOf, token_text, symbol, symbols_of}
use Rattle.ftl_tokens.proofs.scanner.TokenLemmas.{is_token_of-get, symbols_of-get}
use Rattle.ftl_tokens.proofs.scanner.tokenized.TokenizedText.slice.Goals as goal
use Rattle.ftl_tokens.proofs.scanner.tokenized.TokenizedText.slice.Goals.{After-as_str}

-- the token that was read is the one of the list
token_is : (c : After-as_str) → slice_get c.args.self.now.tokens c.args.k ≡ Some c.index-token.result.now
token_is c =
    let items = ap (λ s. s.tokens) c.self.view_is in
    let within : c.args.k < length c.self.inside.list.items = omega (arith, c.requires.within, ap length items) in
    ap (λ l. slice_get l c.args.k) (sym items) ∙ slice_get_read c.self.inside.list.items _ c.args.k c.index-token.result.now refl within c.index-token.ensures

-- and a token of the text
token_of_text : (c : After-as_str) → IsTokenOf 140737488355327 c.args.self.now.text c.index-token.result.now
token_of_text c =
    is_token_of-get 140737488355327 c.args.self.now.text 0 c.args.self.now.tokens c.args.k c.index-token.result.now (subst (λ s. AreTokensOf 140737488355327 s.text 0 s.tokens) c.self.view_is c.self.invariant) (token_is c)

text_is : (c : After-as_str) → c.as_str.result.now ≡ c.args.self.now.text
text_is c = c.as_str.ensures.value ∙ ap (λ s. s.text) c.self.view_is

pub range-requires-clause-start_le_end : goal.range-requires-clause-start_le_end
range-requires-clause-start_le_end c = omega (arith, (token_of_text (goal.at.range-requires-clause-start_le_end c).After-as_str).some)

pub range-requires-clause-start_boundary : goal.range-requires-clause-start_boundary
range-requires-clause-start_boundary c = λ _.
    let here = (goal.at.range-requires-clause-start_boundary c).After-as_str in
    subst (λ l. IsCharBoundary l c.index-token.result.now.start) (sym (text_is here)) (token_of_text here).begins

pub range-requires-clause-end_boundary : goal.range-requires-clause-end_boundary
range-requires-clause-end_boundary c =
    let here = (goal.at.range-requires-clause-end_boundary c).After-as_str in
    subst (λ l. IsCharBoundary l c.index-token.result.now.end) (sym (text_is here)) (token_of_text here).ends

pub returns-clause-text : goal.returns-clause-text
returns-clause-text c =
    let here = (goal.at.returns-clause-text c).After-as_str in
    subst (λ o. IfSome o (λ t. c.range.result.now ≡ token_text c.args.self.now.text t)) (sym (token_is here))
    (c.range.ensures.value ∙ ap (λ l. token_text l c.index-token.result.now) (text_is here))

pub returns-clause-token : goal.returns-clause-token
returns-clause-token c =
    let here = (goal.at.returns-clause-token c).After-as_str in
    subst (λ o. IfSome o (IsTokenOf 140737488355327 c.args.self.now.text)) (sym (token_is here)) (token_of_text here)

pub returns-clause-symbol : goal.returns-clause-symbol
returns-clause-symbol c =
    let here = (goal.at.returns-clause-symbol c).After-as_str in
    let bytes = c.range.ensures.value ∙ ap (λ l. token_text l c.index-token.result.now) (text_is here) in
    subst (λ o. IfSome o (λ t. slice_get (symbols_of c.args.self.now) c.args.k ≡ Some (symbol t.kind c.range.result.now))) (sym (token_is here))
    (symbols_of-get c.args.self.now c.args.k c.index-token.result.now (token_is here) ∙ ap (λ l. Some (symbol c.index-token.result.now.kind l)) (sym bytes))
