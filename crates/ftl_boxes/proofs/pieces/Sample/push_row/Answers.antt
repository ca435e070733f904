use Rattle.std.proofs.Common.{ap, ◌∙◌, ◌++◌, codes, string_bytes}
use Rattle.ftl_boxes.specs.Sample.{pieces_text}
use Rattle.ftl_boxes.proofs.SampleLemmas.{in_brackets}
use Rattle.ftl_boxes.proofs.pieces.Sample.push_row.Goals as goal

-- the brackets around the pieces
pub returns-clause-text : goal.returns-clause-text
returns-clause-text c =
    let inner = pieces_text c.args.self.grammar c.args.self.size c.args.start c.args.end in
    c.in_ok-push_str-2.ensures.bytes
    ∙ ap (λ l. l ++ codes "] } ") (c.in_ok-push_pieces.ensures.text ∙ ap (λ l. l ++ inner) c.in_ok-push_str.ensures.bytes)
    ∙ in_brackets (string_bytes c.args.out.now) (codes "Row { cells = [ ") inner (codes "] } ")
