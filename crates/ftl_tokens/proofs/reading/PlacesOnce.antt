-- Tokens go wrong at one place alone.
use Rattle.std.proofs.Common.{◌≡◌, ℕ, ◌-◌, [], ◌∷◌, ◌++◌, length, sym, ap, ◌∙◌, subst, append_assoc}
use Rattle.ftl_tokens.specs.scanner.Tokenized.{Tokenized, Symbol, symbols_of}
use Rattle.ftl_tokens.specs.reading.Reader.{Tokens}
use Rattle.ftl_tokens.specs.reading.Place.{Begins, LongestFront, IsFaultPlace, place_of}
use Rattle.ftl_tokens.proofs.reading.Fronts.{Parting, together, sooner, later, parting}
use Rattle.ftl_tokens.proofs.reading.Places.{begins_shorter, front-length}

-- a front with the next token begins no spelled list, so no longer front does
not_longer : {A : Type 0} {S : Tokens → A → Type 0} {ts r : Tokens} (wrong : LongestFront S ts r) (longer : Tokens)
    (t : Symbol) (more s : Tokens)
    → r ≡ t ∷ (more ++ s) → longer ≡ wrong.front ++ (t ∷ more) → Begins S longer → ⊥
not_longer {S = S} wrong longer t more s rest front begins =
    wrong.longest t (more ++ s) rest
    (begins_shorter more (subst (λ l. Begins S l) (front ∙ sym (append_assoc wrong.front (t ∷ []) more)) begins))

pub one_rest : {A : Type 0} {S : Tokens → A → Type 0} {ts r s : Tokens} → LongestFront S ts r → LongestFront S ts s → r ≡ s
one_rest {A} {S} {ts} {r} {s} a b = by (parting a.front b.front r s (sym a.split ∙ b.split))
  where
    by : Parting a.front b.front r s → r ≡ s
    by (together e) = e
    by (sooner t more rest front) = absurd (not_longer a b.front t more s rest front b.begins)
    by (later t more rest front) = absurd (not_longer b a.front t more r rest front a.begins)

-- and at one byte
pub one_place : {A : Type 0} {S : Tokens → A → Type 0} {scanned : Tokenized} {at other : ℕ} → IsFaultPlace S scanned at
    → IsFaultPlace S scanned other
    → at ≡ other
one_place {scanned = scanned} a b =
    a.place
    ∙ ap (place_of scanned.tokens)
    (front-length a.wrong ∙ ap (λ l. length (symbols_of scanned) - length l) (one_rest a.wrong b.wrong) ∙ sym (front-length b.wrong))
    ∙ sym b.place
