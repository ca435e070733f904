-- Bytes that a sink takes in several calls.
use Rattle.std.proofs.Common.{◌≡◌, ℕ, ◌-◌, Option, List, [], ◌++◌, length, take, drop, refl, sym, ap, subst, ◌∙◌, arith}
use Rattle.std.proofs.Common.{append_assoc, append-nil, None, Some, take-append-drop, length-append, le_refl}
use Rattle.std.specs.Io.KnownBytes.{Appends, Keeps}
use Rattle.std.proofs.KnownBytes.{Appends-nil, Appends-trans, Appends-kept}
use Rattle.std.proofs.Math.Seq.{take-append_seam}
use Rattle.std.proofs.lemmas.Slice.{between_to_end}
use Rattle.ftl_edge.specs.Sink.{AppendsFront}

-- known bytes to which nothing was appended stay
Keeps-from_nil : (a b : Option (List ℕ)) → Appends a b [] → Keeps a b
Keeps-from_nil None b p = tt
Keeps-from_nil (Some xs) None p = p
Keeps-from_nil (Some xs) (Some ys) p = p ∙ append-nil xs

-- of these bytes all but the rest were appended
pub record HasAppended (bytes rest : List ℕ) (old new : Option (List ℕ)) : Type 0 where
  pub front : List ℕ
  pub whole : bytes ≡ front ++ rest
  pub appended : Appends old new front

-- nothing so far
pub HasAppended-none : (bytes : List ℕ) (a : Option (List ℕ)) → HasAppended bytes bytes a a
HasAppended-none bytes a = record { front = []; whole = refl; appended = Appends-nil a }

-- then n bytes of the rest
pub HasAppended-more : (bytes rest : List ℕ) (a b c : Option (List ℕ)) (n : ℕ) → HasAppended bytes rest a b → Appends b
    c (take n rest)
    → HasAppended bytes (take (length rest - n) (drop n rest)) a c
HasAppended-more bytes rest a b c n before more = record {
  front = before.front ++ take n rest;
  whole =
      before.whole ∙ ap (λ l. before.front ++ l) (sym (take-append-drop n rest)) ∙ sym (append_assoc before.front (take
      n rest) (drop n rest))
      ∙ ap (λ l. (before.front ++ take n rest) ++ l) (sym (between_to_end rest n (length rest) (le_refl _)));
  appended = Appends-trans a b c before.front (take n rest) before.appended more;
}

-- then a call that failed
pub HasAppended-failed : (bytes rest : List ℕ) (a b c : Option (List ℕ)) → HasAppended bytes rest a b → Keeps b c →
    AppendsFront a c bytes
HasAppended-failed bytes rest a b c before kept =
    let front = before.front in (
      length front,
      omega (arith, ap length before.whole, length-append front rest),
      subst (Appends a c) (sym (ap (take (length front)) before.whole ∙ take-append_seam front rest)) (Appends-kept a b
          c front before.appended kept),
    )

-- then a call that took nothing
pub HasAppended-nothing : (bytes rest : List ℕ) (a b c : Option (List ℕ)) (n : ℕ) → HasAppended bytes rest a b →
    Appends b c (take n rest) → n ≡ 0
    → AppendsFront a c bytes
HasAppended-nothing bytes rest a b c n before nothing none =
    HasAppended-failed bytes rest a b c before (Keeps-from_nil b c (subst (λ k. Appends b c (take k rest)) none
    nothing))
