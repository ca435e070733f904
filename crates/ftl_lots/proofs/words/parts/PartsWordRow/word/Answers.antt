use Rattle.std.proofs.Common.{rules, ◌≡◌, ◌<◌, length, get_or, subst, sym, ap, ◌∙◌, arith}
use Rattle.ftl_lots.specs.words.Parts.{Part, all_words}
use Rattle.ftl_lots.proofs.words.Cuts.{in_part, part_there, sized}
use Rattle.ftl_lots.proofs.words.parts.PartsWordRow.word.Goals as goal

pub split-part-requires : goal.split-part-requires
split-part-requires c =
    let p = c.args.self.now in
    record { some = sized p.size c.args.place p.parts.items c.requires.fit c.requires.place }

pub index-requires : goal.index-requires
index-requires c =
    let p = c.args.self.now in
    let s = c.split-part in
    let there = part_there p.size s.result.0 s.result.1 p.parts.items c.requires.fit
    (omega (arith, s.ensures.place, c.requires.place)) in
    omega (arith, there)

pub bounds-words-offset : goal.bounds-words-offset
bounds-words-offset c =
    let p = c.args.self.now in
    let s = c.split-part in
    let q = c.index.result.now in
    let x = in_part p.size s.result.0 s.result.1 p.parts.items q c.requires.fit s.ensures.offset
    (omega (arith, s.ensures.place, c.requires.place)) in
    let inside : s.result.1 < length q.items =
    subst (λ (r : Part). s.result.1 < length r.items) (sym c.index.ensures) x.0 in
    search rules

pub returns : goal.returns
returns c =
    let p = c.args.self.now in
    let s = c.split-part in
    let q = c.index.result.now in
    let x = in_part p.size s.result.0 s.result.1 p.parts.items q c.requires.fit s.ensures.offset
    (omega (arith, s.ensures.place, c.requires.place)) in
    let same : get_or (all_words p.parts.items) c.args.place 0 ≡ get_or q.items s.result.1 0 =
    ap (λ n. get_or (all_words p.parts.items) n 0) s.ensures.place
    ∙ x.1 ∙ ap (λ (r : Part). get_or r.items s.result.1 0) (sym c.index.ensures) in
    search rules
