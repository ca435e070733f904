use Rattle.std.proofs.Common.{ap, codes, ◌++◌, lit<}
use Rattle.std.proofs.lemmas.Fmt.{decimal_digit}
use Rattle.ftl_document_printing.proofs.text.worked.canonical_texts_by_hand.Goals as goal

-- the one digit of the number
pub returns-clause-nodes : goal.returns-clause-nodes
returns-clause-nodes c =
    ap (λ digits. codes "A { b = B { c = [ C { } C { } ] } d = -" ++ ((digits ++ codes " ") ++ codes "}\n"))
    (decimal_digit 3 (lit< tt))
