use Rattle.std.proofs.Common.{◌≡◌, ◌∷◌, List, ℕ, Option, get_or, ◌-◌, take, drop, length, sym, ap, ◌∙◌}
use Rattle.std.proofs.lemmas.Str.{IsCharBoundary-after_ascii}
use Rattle.ftl_tokens.specs.declared.scanner.kind.Kind.{Kind}
use Rattle.ftl_tokens.specs.scanner.Tokenized.{fixed}
use Rattle.ftl_document.specs.plain.Plain.{plain_mark, plain_tokens}
use Rattle.ftl_document.proofs.plain.GapSteps.{slice_behind}
use Rattle.ftl_document.proofs.plain.Fronts.{found_mark, found_stop, mark_first, other_mark}
use Rattle.ftl_document.proofs.plain.next.mark_in.Goals as goal

-- the mark that the call gives
mark_is : (text bytes : List ℕ) (found : Option Kind) → bytes ≡ text
    → found ≡ plain_mark (get_or bytes 0 0) (take (length bytes - 1) (drop 1 bytes))
    → plain_mark (get_or text 0 0) (drop 1 text) ≡ found
mark_is text bytes found same is =
    ap (λ (l : List ℕ). plain_mark (get_or l 0 0) (drop 1 l)) (sym same)
    ∙ ap (plain_mark (get_or bytes 0 0)) (sym (slice_behind bytes 1)) ∙ sym is

pub range_from-requires : goal.range_from-requires
range_from-requires c = λ _.
    IsCharBoundary-after_ascii c.args.text.now 0 c.utf8.text c.requires.some
    (mark_first (get_or c.args.text.now 0 0) (drop 1 c.args.text.now) c.in-Some.kind (mark_is c.args.text.now c.as_bytes-bytes.result.now c.plain_mark.result c.as_bytes-bytes.ensures.value c.plain_mark.ensures.mark ∙ c.in-Some.is))

pub returns-in-Some : goal.returns-in-Some
returns-in-Some c = record {
  found = λ greatest. record {
    tokens =
        found_mark greatest c.args.text.now c.in-Some.kind c.requires.some c.requires.gapless c.requires.no_word c.requires.no_number
        (mark_is c.args.text.now c.as_bytes-bytes.result.now c.plain_mark.result c.as_bytes-bytes.ensures.value c.plain_mark.ensures.mark ∙ c.in-Some.is)
        ∙ ap (λ (l : List ℕ). fixed c.in-Some.kind ∷ plain_tokens greatest l) (sym c.range_from.ensures.value);
    small = tt;
  };
}

pub returns-in-None : goal.returns-in-None
returns-in-None c = record {
  found = λ greatest.
      found_stop greatest c.args.text.now c.stopped.result c.stopped.ensures.next c.stopped.ensures.rest
      (other_mark greatest c.args.text.now c.requires.some c.requires.gapless c.requires.no_word c.requires.no_number
      (mark_is c.args.text.now c.as_bytes-bytes.result.now c.plain_mark.result c.as_bytes-bytes.ensures.value c.plain_mark.ensures.mark ∙ c.in-None.is));
}
