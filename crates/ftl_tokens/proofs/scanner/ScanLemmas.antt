-- A scan that has come to a place of its text.
use Rattle.std.proofs.Common.{◌≡◌, ℕ, zero, suc, ◌+◌, ◌-◌, ◌<◌, ◌≤◌, List, [], ◌∷◌, ◌++◌, length, take, drop, Ok, Err}
use Rattle.std.proofs.Common.{sym, refl, ap, ◌∙◌, subst, arith, length-drop, append_assoc}
use Rattle.std.specs.Char.{len_utf8}
use Rattle.std.specs.Str.{chars, IsUtf8, IsCharBoundary}
use Rattle.std.proofs.lemmas.Bool.{cond-true, cond-false}
use Rattle.std.proofs.lemmas.List.{append-nil, nil_from_length}
use Rattle.std.proofs.lemmas.Str.{chars-nil, encodes-chars}
use Rattle.ftl_tokens.specs.declared.scanner.kind.Kind.{Kind}
use Rattle.ftl_tokens.specs.declared.scanner.kind.Token.{Token}
use Rattle.ftl_tokens.specs.declared.scanner.fault.TokenFault.{TokenFault}
use Rattle.ftl_tokens.specs.declared.scanner.fault.TokenFault.TheVariants.{BadChar, NumberTooLarge}
use Rattle.ftl_tokens.specs.declared.scanner.piece.Piece.TheVariants as piece
use Rattle.ftl_tokens.specs.declared.scanner.piece.Piece.TheVariants.{Gap, LargeNumber, Nothing}
use Rattle.ftl_tokens.specs.scanner.Scan.{byte_length, Front, gap, token, nothing, front_of, Scanning, followed_by}
use Rattle.ftl_tokens.specs.scanner.Scan.{scan_front, scan_from, scan}
use Rattle.ftl_tokens.specs.scanner.Piece.{Spans, IsPieceOf}
use Rattle.ftl_tokens.proofs.scanner.TextLemmas.{is_cut, byte_length-cons, byte_length-some}

pub followed_by-nil : (r : Scanning) → followed_by [] r ≡ r
followed_by-nil (Ok tokens) = refl
followed_by-nil (Err fault) = refl

pub followed_by-followed_by : (xs ys : List Token) (r : Scanning)
    → followed_by xs (followed_by ys r) ≡ followed_by (xs ++ ys) r
followed_by-followed_by xs ys (Ok tokens) = ap (λ l. Ok l) (sym (append_assoc xs ys tokens))
followed_by-followed_by xs ys (Err fault) = refl

-- the characters of what stands before are passed over
scan_from-skip : (greatest n at : ℕ) (cs : List ℕ) → n ≤ length cs
    → scan_from greatest at n cs ≡ scan_from greatest (at + byte_length (take n cs)) 0 (drop n cs)
unfolding scan_from
scan_from-skip greatest zero at cs within = ap (λ place. scan_from greatest place 0 cs) (omega arith)
scan_from-skip greatest (suc n) at [] within = absurd (omega arith)
scan_from-skip greatest (suc n) at (c ∷ cs) within =
    scan_from-skip greatest n (at + len_utf8 c) cs (omega arith)
    ∙ ap (λ place. scan_from greatest place 0 (drop n cs)) (omega (arith, byte_length-cons c (take n cs)))

-- what stands after a front of n characters
pub scan_after : (greatest at c n len : ℕ) (cs : List ℕ) → Spans (c ∷ cs) n len
    → scan_from greatest (at + len_utf8 c) (n - 1) cs ≡ scan_from greatest (at + len) 0 (drop n (c ∷ cs))
scan_after greatest at c zero len cs spans = absurd (omega (arith, spans.some))
scan_after greatest at c (suc n) len cs spans =
    let one : suc n - 1 ≡ n = omega arith in
    ap (λ k. scan_from greatest (at + len_utf8 c) k cs) one
    ∙ scan_from-skip greatest n (at + len_utf8 c) cs (omega (arith, spans.within))
    ∙ ap (λ place. scan_from greatest place 0 (drop n cs)) (omega (arith, spans.bytes, byte_length-cons c (take n cs)))

-- a scan at a front goes on after n characters with these tokens more
pub record GoesOn (greatest at len : ℕ) (cs : List ℕ) (tokens : List Token) : Type 0 where
  pub count : ℕ
  pub spans : Spans cs count len
  pub scans : scan_from greatest at 0 cs ≡ followed_by tokens (scan_from greatest (at + len) 0 (drop count cs))

pub gap_step : (greatest at len : ℕ) (cs : List ℕ) (f : Front) → front_of cs ≡ f → IsPieceOf greatest f cs (Gap len)
    → GoesOn greatest at len cs []
unfolding scan_from
gap_step greatest at len [] (gap n) front is = absurd (omega (arith, is.some, is.within))
gap_step greatest at len (c ∷ cs) (gap n) front is = record {
  count = n;
  spans = is;
  scans =
      ap (λ f. scan_front greatest at (c ∷ cs) f (λ k. scan_from greatest (at + len_utf8 c) (k - 1) cs)) front
      ∙ scan_after greatest at c n len cs is
      ∙ sym (followed_by-nil _);
}
gap_step greatest at len cs (token kind n) front is = absurd is
gap_step greatest at len cs nothing front is = absurd is

pub token_step : (greatest at len : ℕ) (kind : Kind) (cs : List ℕ) (f : Front) → front_of cs ≡ f
    → IsPieceOf greatest f cs (piece.Token kind len)
    → GoesOn greatest at len cs (record { kind = kind; start = at; end = at + len } ∷ [])
unfolding scan_from
token_step greatest at len kind [] (token found n) front is = absurd (omega (arith, is.2.some, is.2.within))
token_step greatest at len kind (c ∷ cs) (token found n) front is = record {
  count = n;
  spans = is.2;
  scans =
      ap (λ f. scan_front greatest at (c ∷ cs) f (λ k. scan_from greatest (at + len_utf8 c) (k - 1) cs)) front
      ∙ cond-false _ _ _ is.1
      ∙ ap (λ r. followed_by (record { kind = found; start = at; end = at + byte_length (take n (c ∷ cs)) } ∷ []) r) (scan_after greatest at c n len cs is.2)
      ∙ ap (λ k. followed_by (record { kind = k; start = at; end = at + byte_length (take n (c ∷ cs)) } ∷ []) (scan_from greatest (at + len) 0 (drop n (c ∷ cs)))) (sym is.0)
      ∙ ap (λ e. followed_by (record { kind = kind; start = at; end = at + e } ∷ []) (scan_from greatest (at + len) 0 (drop n (c ∷ cs)))) (sym is.2.bytes);
}
token_step greatest at len kind cs (gap n) front is = absurd is
token_step greatest at len kind cs nothing front is = absurd is

pub large_step : (greatest at : ℕ) (cs : List ℕ) (f : Front) → front_of cs ≡ f → IsPieceOf greatest f cs LargeNumber → 0 < length cs
    → scan_from greatest at 0 cs ≡ Err (NumberTooLarge at)
unfolding scan_from
large_step greatest at [] f front is some = absurd (omega arith)
large_step greatest at (c ∷ cs) (token kind n) front is some =
    ap (λ f. scan_front greatest at (c ∷ cs) f (λ k. scan_from greatest (at + len_utf8 c) (k - 1) cs)) front ∙ cond-true _ _ _ is
large_step greatest at cs (gap n) front is some = absurd is
large_step greatest at cs nothing front is some = absurd is

pub nothing_step : (greatest at : ℕ) (cs : List ℕ) (f : Front) → front_of cs ≡ f → IsPieceOf greatest f cs Nothing → 0 < length cs
    → scan_from greatest at 0 cs ≡ Err (BadChar at)
unfolding scan_from
nothing_step greatest at [] f front is some = absurd (omega arith)
nothing_step greatest at (c ∷ cs) nothing front is some = ap (λ f. scan_front greatest at (c ∷ cs) f (λ k. scan_from greatest (at + len_utf8 c) (k - 1) cs)) front
nothing_step greatest at cs (gap n) front is some = absurd is
nothing_step greatest at cs (token kind n) front is some = absurd is

-- the tokens are those of the text before byte `at`, and rest is what is left
pub record HasRead (greatest : ℕ) (text : List ℕ) (tokens : List Token) (at : ℕ) (rest : List ℕ) : Type 0 where
  pub utf8 : IsUtf8 rest
  pub left : at + length rest ≡ length text
  pub ahead : scan greatest text ≡ followed_by tokens (scan_from greatest at 0 (chars rest))

pub has_read_nothing : (greatest : ℕ) (text : List ℕ) → IsUtf8 text → HasRead greatest text [] 0 text
unfolding scan
has_read_nothing greatest text utf8 = record { utf8 = utf8; left = omega arith; ahead = sym (followed_by-nil _) }

module _ {greatest : ℕ} {text : List ℕ} {tokens : List Token} {at : ℕ} {rest : List ℕ} (read : HasRead greatest text tokens at rest) where
  -- the front ends between characters
  pub front_boundary : (len : ℕ) (more : List Token) → GoesOn greatest at len (chars rest) more → IsCharBoundary rest len
  front_boundary len more goes =
      subst (IsCharBoundary rest) (sym goes.spans.bytes) (is_cut rest goes.count read.utf8).boundary

  pub has_read_more : (len : ℕ) (more : List Token) → GoesOn greatest at len (chars rest) more
      → HasRead greatest text (tokens ++ more) (at + len) (drop len rest)
  has_read_more len more goes =
      let cut = is_cut rest goes.count read.utf8 in
      let same = sym goes.spans.bytes in
      let within = subst (λ k. k ≤ length rest) same cut.within in
      record {
        utf8 = subst (λ k. IsUtf8 (drop k rest)) same cut.rest_utf8;
        left = omega (arith, within, read.left, length-drop len rest);
        ahead =
            read.ahead
            ∙ ap (followed_by tokens) goes.scans
            ∙ followed_by-followed_by tokens more _
            ∙ ap (λ cs. followed_by (tokens ++ more) (scan_from greatest (at + len) 0 cs)) (sym (subst (λ k. chars (drop k rest) ≡ drop goes.count (chars rest)) same cut.rest_chars));
      }

  pub has_read_all : length rest ≡ 0 → scan greatest text ≡ Ok tokens
  unfolding scan_from
  has_read_all none =
      read.ahead ∙ ap (λ cs. followed_by tokens (scan_from greatest at 0 cs)) (ap chars (nil_from_length rest none) ∙ chars-nil) ∙ ap (λ l. Ok l) (append-nil tokens)

  pub has_fault : (fault : TokenFault) → scan_from greatest at 0 (chars rest) ≡ Err fault → scan greatest text ≡ Err fault
  has_fault fault stops = read.ahead ∙ ap (followed_by tokens) stops

-- a text that is not empty has a character
pub has_char : (text : List ℕ) → IsUtf8 text → 0 < length text → 0 < length (chars text)
has_char text utf8 some =
    let cs = chars text in
    let bytes = ap length (encodes-chars text utf8) in
    has_char_in cs (omega (arith, bytes)) where
      has_char_in : (cs : List ℕ) → 0 < byte_length cs → 0 < length cs
      has_char_in [] some = absurd (omega arith)
      has_char_in (c ∷ cs) some = omega arith

-- one turn: some tokens more, of a front of len bytes
pub record Advances (greatest : ℕ) (tokens next : List Token) (at len : ℕ) (rest : List ℕ) : Type 0 where
  pub more : List Token
  pub added : next ≡ tokens ++ more
  pub goes : GoesOn greatest at len (chars rest) more

pub gap_advances : (greatest : ℕ) (tokens next : List Token) (at len found : ℕ) (rest : List ℕ)
    → IsPieceOf greatest (front_of (chars rest)) (chars rest) (Gap found) → len ≡ found → next ≡ tokens
    → Advances greatest tokens next at len rest
gap_advances greatest tokens next at len found rest is len_is next_is = record {
  more = [];
  added = next_is ∙ sym (append-nil tokens);
  goes = gap_step greatest at len (chars rest) (front_of (chars rest)) refl (subst (λ k. IsPieceOf greatest (front_of (chars rest)) (chars rest) (Gap k)) (sym len_is) is);
}

pub token_advances : (greatest : ℕ) (tokens next : List Token) (at len found : ℕ) (kind : Kind) (rest : List ℕ)
    → IsPieceOf greatest (front_of (chars rest)) (chars rest) (piece.Token kind found) → len ≡ found
    → next ≡ tokens ++ (record { kind = kind; start = at; end = at + found } ∷ []) → Advances greatest tokens next at len rest
token_advances greatest tokens next at len found kind rest is len_is next_is =
    let end_is : next ≡ tokens ++ (record { kind = kind; start = at; end = at + len } ∷ []) = subst (λ k. next ≡ tokens ++ (record { kind = kind; start = at; end = at + k } ∷ [])) (sym len_is) next_is in
    record {
      more = record { kind = kind; start = at; end = at + len } ∷ [];
      added = end_is;
      goes = token_step greatest at len kind (chars rest) (front_of (chars rest)) refl (subst (λ k. IsPieceOf greatest (front_of (chars rest)) (chars rest) (piece.Token kind k)) (sym len_is) is);
    }

module _ {greatest : ℕ} {text : List ℕ} {tokens next : List Token} {at len : ℕ} {rest : List ℕ} (read : HasRead greatest text tokens at rest) (turn : Advances greatest tokens next at len rest) where
  pub advanced_boundary : IsCharBoundary rest len
  advanced_boundary = front_boundary read len turn.more turn.goes

  pub advanced_some : 0 < len
  advanced_some =
      let spans = turn.goes.spans in
      omega (arith, spans.bytes, byte_length-some (chars rest) turn.goes.count spans.some spans.within)

  pub has_read_next : (after : List ℕ) → after ≡ drop len rest → HasRead greatest text next (at + len) after
  has_read_next after after_is =
      subst (λ l. HasRead greatest text next (at + len) l) (sym after_is)
      (subst (λ l. HasRead greatest text l (at + len) (drop len rest)) (sym turn.added) (has_read_more read len turn.more turn.goes))

  -- the place after the turn is in the text
  pub advanced_within : at + len ≤ length text
  advanced_within = omega (arith, read.left, advanced_boundary.0)
