-- The word of a kind of pass is one token.
use Rattle.std.proofs.Common.{◌≡◌, Bool, true, false, if◌then◌else◌, [], ◌∷◌, Option, Some, None, Ok, Err, refl}
use Rattle.std.proofs.Common.{ap, ◌∙◌}
use Rattle.std.specs.Str.{bytes_eq}
use Rattle.std.proofs.lemmas.Slice.Eq.{bytes_eq-Decides}
use Rattle.ftl_tokens.specs.scanner.Tokenized.{Symbol, name, number, fixed}
use Rattle.ftl_tokens.specs.reading.Reader.{Tokens, ReadResult, is_name, rest_of}
use Rattle.ftl_tokens.proofs.reading.TokenLemmas.{IsToken, token, token_by}
use Rattle.ftl_schedule.specs.declared.syntax.kind.PassKind.{PassKind}
use Rattle.ftl_schedule.specs.declared.syntax.kind.PassKind.TheVariants.{TopDown, BottomUp, InOrder}
use Rattle.ftl_schedule.specs.syntax.Trees.{NameText, word_of}
use Rattle.ftl_schedule.specs.syntax.Reading.{take_kind}

-- the kind that the word is of, by three tests
abbrev pub kind_if : (top bottom order : Bool) → Option PassKind
kind_if top bottom order =
    if top then Some TopDown else (if bottom then Some BottomUp else (if order then Some InOrder else None))

-- the kind of pass that a name is the word of
abbrev pub kind_named : NameText → Option PassKind
kind_named text =
    kind_if (bytes_eq text (word_of TopDown)) (bytes_eq text (word_of BottomUp)) (bytes_eq text (word_of InOrder))

-- what `take_kind` takes
abbrev pub takes_kind : Symbol → Option PassKind
takes_kind (name text) = kind_named text
takes_kind _ = None

-- both ways to say it
pub by_tests : (top bottom order : Bool) (t : Symbol) (ts : Tokens) → ReadResult PassKind
by_tests top bottom order t ts =
    if top then Ok (TopDown, ts)
    else (if bottom then Ok (BottomUp, ts) else (if order then Ok (InOrder, ts) else Err (t ∷ ts)))

pub by_tests-token : (top bottom order : Bool) (t : Symbol) (ts : Tokens)
    → by_tests top bottom order t ts ≡ token_by (kind_if top bottom order) t ts
unfolding by_tests
by_tests-token true bottom order t ts = refl
by_tests-token false true order t ts = refl
by_tests-token false false true t ts = refl
by_tests-token false false false t ts = refl

-- `take_kind` reads one token
pub kind_is_token : IsToken takes_kind take_kind
unfolding take_kind is_name rest_of by_tests
kind_is_token = record { reads = go }
  where
    go : (ts : Tokens) → take_kind ts ≡ token takes_kind ts
    go [] = refl
    go (name text ∷ ts) =
        by_tests-token (bytes_eq text (word_of TopDown)) (bytes_eq text (word_of BottomUp))
        (bytes_eq text (word_of InOrder)) (name text) ts
    go (number value ∷ ts) = refl
    go (fixed found ∷ ts) = refl

-- the word of a kind is taken for that kind
pub takes_kind-same : (k : PassKind) → takes_kind (name (word_of k)) ≡ Some k
takes_kind-same TopDown = refl
takes_kind-same BottomUp = refl
takes_kind-same InOrder = refl

-- texts that are told to be equal
pub same_text : (text word : NameText) → bytes_eq text word ≡ true → text ≡ word
same_text text word e = (bytes_eq-Decides text word).0 e

-- the three words tell their kinds
pub words_tell : (text : NameText) (top bottom order : Bool) (k : PassKind)
    → bytes_eq text (word_of TopDown) ≡ top → bytes_eq text (word_of BottomUp) ≡ bottom
    → bytes_eq text (word_of InOrder) ≡ order → kind_if top bottom order ≡ Some k → text ≡ word_of k
words_tell text true bottom order k a b c e =
    let same : TopDown ≡ k = cc in
    same_text text (word_of TopDown) a ∙ ap word_of same
words_tell text false true order k a b c e =
    let same : BottomUp ≡ k = cc in
    same_text text (word_of BottomUp) b ∙ ap word_of same
words_tell text false false true k a b c e =
    let same : InOrder ≡ k = cc in
    same_text text (word_of InOrder) c ∙ ap word_of same
words_tell text false false false k a b c e = cc

-- the token that is taken is the word of the kind
pub from_kind : (t : Symbol) (k : PassKind) → takes_kind t ≡ Some k → t ≡ name (word_of k)
from_kind (name text) k e =
    ap name
    (words_tell text (bytes_eq text (word_of TopDown)) (bytes_eq text (word_of BottomUp))
    (bytes_eq text (word_of InOrder)) k refl refl refl e)
from_kind (number value) k e = cc
from_kind (fixed found) k e = cc
