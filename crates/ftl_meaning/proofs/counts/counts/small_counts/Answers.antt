use Rattle.ftl_meaning.proofs.counts.counts.small_counts.Goals as goal

pub returns : goal.returns
returns c =
    let g = c.args.grammar.now in
    let is = c.requires.readable in
    let laws = c.counts_of_spelled_grammars.ensures in
    record { small = laws.spelled is.tokens g is.spells is.few; kinds = laws.kinds is.tokens g is.spells }
