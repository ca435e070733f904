-- An interface shows no more attributes than there are.
use Rattle.std.proofs.Common.{ℕ, ◌<◌, ◌≤◌, Bool, filter, length, take, arith}
use Rattle.std.proofs.lemmas.List.{length-map}
use Rattle.std.proofs.lemmas.List.Sums.{count_by-le-length, length-filter}
use Rattle.ftl_grammar.specs.declared.syntax.rules.AttrDecl.{AttrDecl}
use Rattle.ftl_grammar.specs.declared.syntax.rules.Grammar.{Grammar}
use Rattle.ftl_meaning.specs.faults.Checked.{all_attributes}
use Rattle.ftl_meaning.specs.faults.Numbering.{interface_at, is_among, shared_attributes, shared_count}
use Rattle.ftl_meaning.specs.grammars.GrammarOf.{shown_attributes}
use Rattle.ftl_tree.proofs.boxes.ShownAmong.{end_within, length-numbered}

pub few_shown : (g : Grammar) (i : ℕ) → i < length g.interfaces → length (shown_attributes g i) ≤ length (all_attributes g)
few_shown g i known =
    let shows : ℕ × AttrDecl → Bool = λ a. is_among (interface_at g i).shown a.1.name in
    let attrs = shared_attributes g i in
    let mapped = length-map (filter shows attrs) (λ a. a.0) in
    let counted = length-filter shows attrs in
    let few = count_by-le-length shows attrs in
    let long = length-numbered (shared_count (take i g.interfaces)) (interface_at g i).attrs in
    let all = end_within g i known in
    omega (arith, mapped, counted, few, long, all)
