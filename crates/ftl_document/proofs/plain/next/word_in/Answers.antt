use Rattle.std.proofs.Common.{◌≡◌, ◌+◌, ◌-◌, true, false, ◌∷◌, take, drop, sym, ap, ◌∙◌, arith, List, ℕ, length}
use Rattle.std.specs.List.{prefix_len}
use Rattle.ftl_tokens.specs.declared.scanner.run.Run.TheVariants.{Word}
use Rattle.ftl_tokens.specs.scanner.Kinds.{kind_of_word}
use Rattle.ftl_tokens.specs.scanner.Run.{byte_goes_on}
use Rattle.ftl_tokens.specs.scanner.Tokenized.{name}
use Rattle.ftl_document.specs.plain.Plain.{is_name_kind, plain_tokens}
use Rattle.ftl_document.proofs.plain.GapSteps.{slice_before, slice_behind}
use Rattle.ftl_document.proofs.plain.Fronts.{boundary_behind, found_stop, found_word, reserved_word, word_first, word_within}
use Rattle.ftl_document.proofs.plain.next.word_in.Goals as goal

-- how far the word goes
count : (text bytes : List ℕ) (n : ℕ) → bytes ≡ text → n ≡ prefix_len (byte_goes_on Word) (take (length bytes - 1) (drop 1 bytes))
    → 1 + n ≡ 1 + prefix_len (byte_goes_on Word) (drop 1 text)
count text bytes n same is =
    ap (λ k. 1 + k) (is ∙ ap (prefix_len (byte_goes_on Word)) (slice_behind bytes 1 ∙ ap (drop 1) same))

pub overflow_add-length : goal.overflow_add-length
overflow_add-length c = omega (arith, count c.args.text.now c.as_bytes.result.now c.word_length-length.result c.as_bytes.ensures.value c.word_length-length.ensures.length, word_within c.args.text.now c.requires.word, c.as_bytes.ensures.len, ap length c.as_bytes.ensures.value)

pub range-word-requires-clause-end_boundary : goal.range-word-requires-clause-end_boundary
range-word-requires-clause-end_boundary c =
    boundary_behind Word c.args.text.now _ c.utf8.text (word_first c.args.text.now c.requires.word) (count c.args.text.now c.as_bytes.result.now c.word_length-length.result c.as_bytes.ensures.value c.word_length-length.ensures.length)

pub returns-then-not-is_name : goal.returns-then-not-is_name
returns-then-not-is_name c = record {
  found = λ greatest.
      let text = c.args.text.now in
      let is : is_name_kind (kind_of_word (take (1 + c.word_length-length.result) text)) ≡ false =
      ap (λ (l : List ℕ). is_name_kind (kind_of_word l)) (sym (c.range-word.ensures.value ∙ slice_before text (1 + c.word_length-length.result)))
      ∙ sym c.is_name.ensures.name ∙ c.if-not-is_name.true in
      found_stop greatest text c.stopped.result c.stopped.ensures.next c.stopped.ensures.rest
      (reserved_word greatest text _ c.requires.gapless c.requires.word (count c.args.text.now c.as_bytes.result.now c.word_length-length.result c.as_bytes.ensures.value c.word_length-length.ensures.length) is);
}

pub range_from-requires : goal.range_from-requires
range_from-requires c = λ _.
    boundary_behind Word c.args.text.now _ c.utf8.text (word_first c.args.text.now c.requires.word) (count c.args.text.now c.as_bytes.result.now c.word_length-length.result c.as_bytes.ensures.value c.word_length-length.ensures.length)

pub returns : goal.returns
returns c = record {
  found = λ greatest.
      let text = c.args.text.now in
      let long = 1 + c.word_length-length.result in
      let is : is_name_kind (kind_of_word (take long text)) ≡ true =
      ap (λ (l : List ℕ). is_name_kind (kind_of_word l)) (sym (c.range-word.ensures.value ∙ slice_before text (1 + c.word_length-length.result)))
      ∙ sym c.is_name.ensures.name ∙ c.if-not-is_name.false in
      record {
        tokens =
            found_word greatest text long c.requires.gapless c.requires.word (count c.args.text.now c.as_bytes.result.now c.word_length-length.result c.as_bytes.ensures.value c.word_length-length.ensures.length) is
            ∙ ap (λ (l : List ℕ). name l ∷ plain_tokens greatest (drop long text)) (sym (c.new.ensures.name ∙ c.range-word.ensures.value ∙ slice_before text long))
            ∙ ap (λ (l : List ℕ). name c.new.result ∷ plain_tokens greatest l) (sym c.range_from.ensures.value);
        small = tt;
      };
}
