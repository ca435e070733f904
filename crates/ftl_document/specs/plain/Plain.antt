-- The tokens of the bytes of a text, as long as they are plain: in ASCII, and such as stand in a document.
use Rattle.std.specs.Prelude.{ℕ, Bool, true, false, zero, suc, ◌-◌, ◌==◌, List, [], ◌∷◌, take, Option, Some, None, if◌then◌else◌}
use Rattle.std.specs.List.{prefix_len}
use Rattle.ftl_tokens.specs.declared.scanner.kind.Kind.{Kind}
use Rattle.ftl_tokens.specs.declared.scanner.kind.Kind.TheVariants.{Name, Number, LeftBrace, RightBrace, LeftBracket}
use Rattle.ftl_tokens.specs.declared.scanner.kind.Kind.TheVariants.{RightBracket, Minus, Equals, Bang}
use Rattle.ftl_tokens.specs.declared.scanner.run.Run.TheVariants.{White, Word, Digits, Comment}
use Rattle.ftl_tokens.specs.scanner.Kinds.{kind_of_word}
use Rattle.ftl_tokens.specs.scanner.Run.{byte_goes_on, byte_begins_word}
use Rattle.ftl_tokens.specs.scanner.Scan.{Front, gap, token, nothing, token_if, is_too_large}
use Rattle.ftl_tokens.specs.scanner.Tokenized.{fixed, symbol}
use Rattle.ftl_tokens.specs.reading.Reader.{Tokens}

-- the mark `=`, where no second one follows; 61 is `=`
abbrev pub equals_before : List ℕ → Option Kind
equals_before [] = Some Equals
equals_before (b ∷ bs) = if b == 61 then None else Some Equals

-- the mark of documents that begins with this byte, before the others
abbrev pub plain_mark : ℕ → List ℕ → Option Kind
plain_mark b bs =
    if b == 61 then equals_before bs
    else (if b == 123 then Some LeftBrace
    else (if b == 125 then Some RightBrace
    else (if b == 91 then Some LeftBracket
    else (if b == 93 then Some RightBracket
    else (if b == 45 then Some Minus
    else None)))))

-- whether it is the kind of names
abbrev pub is_name_kind : Kind → Bool
is_name_kind Name = true
is_name_kind _ = false

-- a word of so many bytes, where it is a name
abbrev pub name_front : Kind → ℕ → Front
name_front Name n = token Name n
name_front _ n = nothing

-- a byte of white space, a comment from `#` (35) on, a name, a number or a mark, all in ASCII, or else nothing
unfoldable pub plain_front : List ℕ → Front
plain_front [] = nothing
plain_front (b ∷ bs) =
    if byte_goes_on White b then gap 1
    else (if b == 35 then gap (suc (prefix_len (byte_goes_on Comment) bs))
    else (if byte_begins_word b then name_front (kind_of_word (b ∷ take (prefix_len (byte_goes_on Word) bs) bs)) (suc (prefix_len (byte_goes_on Word) bs))
    else (if byte_goes_on Digits b then token Number (suc (prefix_len (byte_goes_on Digits) bs))
    else token_if (plain_mark b bs) 1)))

-- what is not plain ends the tokens with `!`, which stands in no document
abbrev pub stopped : Tokens
stopped = fixed Bang ∷ []

-- what a front gives with this greatest number, and the tokens after so many bytes
abbrev pub plain_by : ℕ → List ℕ → Front → (ℕ → Tokens) → Tokens
plain_by greatest bs (gap n) after = after n
plain_by greatest bs (token kind n) after =
    if is_too_large greatest kind (take n bs) then stopped else symbol kind (take n bs) ∷ after n
plain_by greatest bs nothing after = stopped

-- the tokens of these bytes, of which the first `read` belong to what stands before
unfoldable pub plain_from : ℕ → ℕ → List ℕ → Tokens
plain_from greatest read [] = []
plain_from greatest (suc read) (b ∷ bs) = plain_from greatest read bs
plain_from greatest zero (b ∷ bs) =
    plain_by greatest (b ∷ bs) (plain_front (b ∷ bs)) (λ n. plain_from greatest (n - 1) bs)

-- the tokens of these bytes
abbrev pub plain_tokens : ℕ → List ℕ → Tokens
plain_tokens greatest bs = plain_from greatest 0 bs
