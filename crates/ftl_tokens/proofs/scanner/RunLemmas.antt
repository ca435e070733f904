-- A run of characters, from the front of a text on.
use Rattle.std.proofs.Common.{◌≡◌, ℕ, suc, ◌+◌, ◌<◌, ◌≤◌, Bool, true, false, cond, List, [], ◌∷◌, ◌++◌, length}
use Rattle.std.proofs.Common.{get_or, take, drop, sym, ap, ◌∙◌, subst, ⊎_elim, arith, add-one, drop-cons}
use Rattle.std.proofs.Common.{length-append, length-drop}
use Rattle.std.specs.List.{take_while, prefix_len}
use Rattle.std.specs.Char.{encode_utf8}
use Rattle.std.specs.Prelude.{encode_utf8_all}
use Rattle.std.specs.Str.{chars, IsUtf8}
use Rattle.std.proofs.lemmas.Bool.{false≢true, false_from_ne_true, cases_lt}
use Rattle.std.proofs.lemmas.List.{nil_from_length}
use Rattle.std.proofs.lemmas.Str.{chars-nil, encode_ascii, chars_past_char, IsUtf8-past_char}
use Rattle.ftl_tokens.specs.scanner.Piece.{StartsFar}
use Rattle.ftl_tokens.specs.scanner.Scan.{byte_length}

-- the run at the front of text goes on with that at the front of rest, which stands at offset
pub record RunsThrough (p : ℕ → Bool) (text : List ℕ) (offset : ℕ) (rest : List ℕ) : Type 0 where
  pub utf8 : IsUtf8 rest
  pub left : offset + length rest ≡ length text
  pub run : byte_length (take_while p (chars text)) ≡ offset + byte_length (take_while p (chars rest))

pub runs_through_start : (p : ℕ → Bool) (text rest : List ℕ) (offset : ℕ) → IsUtf8 text → rest ≡ text → offset ≡ 0
    → RunsThrough p text offset rest
runs_through_start p text rest offset utf8 same zero = record {
  utf8 = subst IsUtf8 (sym same) utf8;
  left = omega (arith, ap length same);
  run = omega (arith, ap (λ bs. byte_length (take_while p (chars bs))) same);
}

-- the run at a character that goes on
on_run : (p : ℕ → Bool) (c : ℕ) (cs : List ℕ) → p c ≡ true
    → byte_length (take_while p (c ∷ cs)) ≡ length (encode_utf8 c) + byte_length (take_while p cs)
on_run p c cs goes =
    let more : 1 + prefix_len p cs ≡ suc (prefix_len p cs) = omega arith in
    ap (λ b. byte_length (take (cond b (1 + prefix_len p cs) 0) (c ∷ cs))) goes
    ∙ ap (λ n. byte_length (take n (c ∷ cs))) more
    ∙ length-append (encode_utf8 c) (encode_utf8_all (take_while p cs))

-- the run at a character that does not
at_end : (p : ℕ → Bool) (c : ℕ) (cs : List ℕ) → p c ≡ false → byte_length (take_while p (c ∷ cs)) ≡ 0
at_end p c cs stops = ap (λ b. byte_length (take (cond b (1 + prefix_len p cs) 0) (c ∷ cs))) stops

module _ {p : ℕ → Bool} {text : List ℕ} {offset : ℕ} {rest : List ℕ} (runs : RunsThrough p text offset rest) where
  pub runs_through_more : (c next_offset : ℕ) (after : List ℕ) → rest ≡ encode_utf8 c ++ after → p c ≡ true
      → next_offset ≡ offset + length (encode_utf8 c) → RunsThrough p text next_offset after
  runs_through_more c next_offset after split goes moved =
      let step = on_run p c (chars after) goes in
      let front = ap (λ cs. byte_length (take_while p cs)) (chars_past_char rest after c runs.utf8 split) in
      record {
        utf8 = IsUtf8-past_char rest after c runs.utf8 split;
        left = omega (arith, runs.left, ap length split, length-append (encode_utf8 c) after);
        run = omega (arith, runs.run, front, step);
      }

  pub runs_through_stop : (c : ℕ) (after : List ℕ) → rest ≡ encode_utf8 c ++ after → p c ≡ false
      → offset ≡ byte_length (take_while p (chars text))
  runs_through_stop c after split stops =
      omega (arith, runs.run, ap (λ cs. byte_length (take_while p cs)) (chars_past_char rest after c runs.utf8 split), at_end p c (chars after) stops)

  pub runs_through_end : length rest ≡ 0 → length text ≡ byte_length (take_while p (chars text))
  runs_through_end empty =
      omega (arith, runs.run, runs.left, ap (λ cs. byte_length (take_while p cs)) (ap chars (nil_from_length rest empty) ∙ chars-nil))

-- an ASCII byte at a place is a character
ascii_char : (text : List ℕ) (offset : ℕ) → offset < length text → get_or text offset 0 < 128
    → drop offset text ≡ encode_utf8 (get_or text offset 0) ++ drop (offset + 1) text
ascii_char text offset within ascii =
    drop-cons text offset 0 within
    ∙ ap (λ l. l ++ drop (suc offset) text) (sym (encode_ascii (get_or text offset 0) ascii))
    ∙ ap (λ k. encode_utf8 (get_or text offset 0) ++ drop k text) (sym (add-one offset))

-- a text that begins with an ASCII byte begins with that character
pub first_ascii : (text bytes : List ℕ) → IsUtf8 text → bytes ≡ text → 0 < length text → get_or bytes 0 0 < 128
    → chars text ≡ get_or bytes 0 0 ∷ chars (drop 1 text)
first_ascii text bytes utf8 same some =
    subst (λ l. get_or l 0 0 < 128 → chars text ≡ get_or l 0 0 ∷ chars (drop 1 text)) (sym same)
    (λ ascii. chars_past_char text (drop 1 text) (get_or text 0 0) utf8 (ascii_char text 0 some ascii))

far_first : (text : List ℕ) → IsUtf8 text → 0 < length text → 128 ≤ get_or text 0 0 → StartsFar (chars text)
far_first text ([], (scalar, same)) some far = absurd (omega (arith, some, ap length same))
far_first text (c ∷ cs, (scalar, same)) some far =
    subst StartsFar (sym (chars_past_char text (encode_utf8_all cs) c (c ∷ cs, (scalar, same)) (sym same)))
    (⊎_elim
    (λ ascii.
    let first : get_or text 0 0 ≡ c = ap (λ (l : List ℕ). get_or l 0 0) (sym same ∙ ap (λ l. l ++ encode_utf8_all cs) (encode_ascii c ascii)) in
    absurd (omega (arith, first)))
    (λ beyond. beyond)
    (cases_lt c 128))

-- one that begins with another byte begins with a character beyond ASCII
pub first_far : (text bytes : List ℕ) → IsUtf8 text → bytes ≡ text → 0 < length text → 128 ≤ get_or bytes 0 0
    → StartsFar (chars text)
first_far text bytes utf8 same some far = far_first text utf8 some (subst (λ l. 128 ≤ get_or l 0 0) same far)

-- where what runs is ASCII, it stops before a byte that is none of it
stops_other : (p : ℕ → Bool) → ((c : ℕ) → p c ≡ true → c < 128) → (rest : List ℕ) → IsUtf8 rest → 0 < length rest
    → p (get_or rest 0 0) ≡ false → byte_length (take_while p (chars rest)) ≡ 0
stops_other p ascii rest ([], (scalar, same)) some other = absurd (omega (arith, some, ap length same))
stops_other p ascii rest (c ∷ cs, (scalar, same)) some other =
    ap (λ l. byte_length (take_while p l)) (chars_past_char rest (encode_utf8_all cs) c (c ∷ cs, (scalar, same)) (sym same))
    ∙ at_end p c (chars (encode_utf8_all cs))
    (false_from_ne_true (p c)
    (λ goes.
    let first : get_or rest 0 0 ≡ c = ap (λ (l : List ℕ). get_or l 0 0) (sym same ∙ ap (λ l. l ++ encode_utf8_all cs) (encode_ascii c (ascii c goes))) in
    false≢true (sym other ∙ ap p first ∙ goes)))

-- a run through the bytes of a text
module _ {p : ℕ → Bool} {text : List ℕ} {offset : ℕ} (runs : RunsThrough p text offset (drop offset text)) (bytes : List ℕ)
    (same : bytes ≡ text) where
  pub runs_through_byte : offset < length bytes → get_or bytes offset 0 < 128 → p (get_or bytes offset 0) ≡ true
      → RunsThrough p text (offset + 1) (drop (offset + 1) text)
  runs_through_byte =
      subst (λ l. offset < length l → get_or l offset 0 < 128 → p (get_or l offset 0) ≡ true → RunsThrough p text (offset + 1) (drop (offset + 1) text)) (sym same)
      (λ within ascii goes.
      runs_through_more runs (get_or text offset 0) (offset + 1) (drop (offset + 1) text) (ascii_char text offset within ascii) goes
      (omega (arith, ap length (encode_ascii (get_or text offset 0) ascii))))

  pub runs_through_byte_stop : offset < length bytes → get_or bytes offset 0 < 128 → p (get_or bytes offset 0) ≡ false
      → offset ≡ byte_length (take_while p (chars text))
  runs_through_byte_stop =
      subst (λ l. offset < length l → get_or l offset 0 < 128 → p (get_or l offset 0) ≡ false → offset ≡ byte_length (take_while p (chars text))) (sym same)
      (λ within ascii stops. runs_through_stop runs (get_or text offset 0) (drop (offset + 1) text) (ascii_char text offset within ascii) stops)

  pub runs_through_byte_other : ((c : ℕ) → p c ≡ true → c < 128) → offset < length bytes
      → p (get_or bytes offset 0) ≡ false → offset ≡ byte_length (take_while p (chars text))
  runs_through_byte_other ascii within other =
      let there : offset < length text = omega (arith, ap length same) in
      let byte = ap (λ (l : List ℕ). get_or l 0 0) (drop-cons text offset 0 there) in
      let stops = stops_other p ascii (drop offset text) runs.utf8 (omega (arith, runs.left, there)) (ap p (byte ∙ ap (λ (l : List ℕ). get_or l offset 0) (sym same)) ∙ other) in
      omega (arith, runs.run, stops)

  pub runs_through_bytes_end : length bytes ≤ offset → length text ≡ byte_length (take_while p (chars text))
  runs_through_bytes_end past = runs_through_end runs (omega (arith, ap length same, length-drop offset text))
