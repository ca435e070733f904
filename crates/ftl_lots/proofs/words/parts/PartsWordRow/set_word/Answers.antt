use Rattle.std.proofs.Common.{◌≡◌, ◌<◌, ◌+◌, ◌*◌, length, get_or, set, length-set, sym, ap, ◌∙◌, arith}
use Rattle.std.proofs.lemmas.List.{with_items_is}
use Rattle.std.specs.Vec.{with_items}
use Rattle.ftl_lots.specs.words.Parts.{Part, all_words}
use Rattle.ftl_lots.proofs.words.Cuts.{in_part, part_there, set_in_part, sized}
use Rattle.ftl_lots.proofs.words.parts.PartsWordRow.set_word.Goals as goal

pub split-part-requires : goal.split-part-requires
split-part-requires c =
    let p = c.args.self.now in
    record { some = sized p.size c.args.place p.parts.items c.requires.fit c.requires.place }

pub index_mut-requires : goal.index_mut-requires
index_mut-requires c =
    let p = c.args.self.now in
    let s = c.split-part in
    let there = part_there p.size s.result.0 s.result.1 p.parts.items c.requires.fit
    (omega (arith, s.ensures.place, c.requires.place)) in
    omega (arith, there)

pub bounds-words-offset : goal.bounds-words-offset
bounds-words-offset c =
    let p = c.args.self.now in
    let s = c.split-part in
    let x = in_part p.size s.result.0 s.result.1 p.parts.items c.index_mut.result.now c.requires.fit s.ensures.offset
    (omega (arith, s.ensures.place, c.requires.place)) in
    let same : length c.as_mut_slice-words.result.now
    ≡ length (get_or p.parts.items s.result.0 c.index_mut.result.now).items =
    ap length c.as_mut_slice-words.ensures.value
    ∙ ap (λ (r : Part). length r.items) c.index_mut.ensures.value in
    omega (arith, x.0, same)

pub returns-clause-words : goal.returns-clause-words
returns-clause-words c =
    let p = c.args.self.now in
    let s = c.split-part in
    let q = c.index_mut.result.now in
    let words = c.as_mut_slice-words.result.now in
    let near : s.result.0 * p.size + s.result.1 < length (all_words p.parts.items) =
    omega (arith, s.ensures.place, c.requires.place) in
    let from : words ≡ (get_or p.parts.items s.result.0 q).items =
    c.as_mut_slice-words.ensures.value ∙ ap (λ (r : Part). r.items) c.index_mut.ensures.value in
    let count : length (set words s.result.1 c.args.word) ≡ q.len =
    omega (
      arith,
      length-set words s.result.1 c.args.word,
      ap length c.as_mut_slice-words.ensures.value,
    ) in
    let is : (with_items q (set words s.result.1 c.args.word)).items
    ≡ set (get_or p.parts.items s.result.0 q).items s.result.1 c.args.word =
    with_items_is q (set words s.result.1 c.args.word) count ∙ ap (λ xs. set xs s.result.1 c.args.word) from in
    (set_in_part p.size s.result.0 s.result.1 c.args.word p.parts.items q
    (with_items q (set words s.result.1 c.args.word)) c.requires.fit s.ensures.offset near is).0
    ∙ ap (λ n. set (all_words p.parts.items) n c.args.word) (sym s.ensures.place)

pub returns-clause-fit : goal.returns-clause-fit
returns-clause-fit c =
    let p = c.args.self.now in
    let s = c.split-part in
    let q = c.index_mut.result.now in
    let words = c.as_mut_slice-words.result.now in
    let near : s.result.0 * p.size + s.result.1 < length (all_words p.parts.items) =
    omega (arith, s.ensures.place, c.requires.place) in
    let from : words ≡ (get_or p.parts.items s.result.0 q).items =
    c.as_mut_slice-words.ensures.value ∙ ap (λ (r : Part). r.items) c.index_mut.ensures.value in
    let count : length (set words s.result.1 c.args.word) ≡ q.len =
    omega (
      arith,
      length-set words s.result.1 c.args.word,
      ap length c.as_mut_slice-words.ensures.value,
    ) in
    let is : (with_items q (set words s.result.1 c.args.word)).items
    ≡ set (get_or p.parts.items s.result.0 q).items s.result.1 c.args.word =
    with_items_is q (set words s.result.1 c.args.word) count ∙ ap (λ xs. set xs s.result.1 c.args.word) from in
    (set_in_part p.size s.result.0 s.result.1 c.args.word p.parts.items q
    (with_items q (set words s.result.1 c.args.word)) c.requires.fit s.ensures.offset near is).1
