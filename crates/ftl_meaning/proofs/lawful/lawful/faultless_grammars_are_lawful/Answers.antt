use Rattle.std.proofs.Common.{◌≡◌, suc, None}
use Rattle.ftl_base.specs.Widths.{greatest_of_width}
use Rattle.ftl_base.specs.declared.width.Width.{Width}
use Rattle.ftl_model.specs.layout.AttributeGrammar.{AttributeGrammar}
use Rattle.ftl_order.specs.orders.Lawful.{IsLawful}
use Rattle.ftl_order.specs.orders.Schedule.{placing_of}
use Rattle.ftl_order.proofs.orders.LegalOrders.{placing_of-one_kind}
use Rattle.ftl_order.proofs.orders.OrderRank.{rank_falls, read_rank}
use Rattle.ftl_order.proofs.orders.Scheduled.{one_list_under, one_table_under}
use Rattle.ftl_order.proofs.orders.TableRange.{value_in_range}
use Rattle.ftl_order.proofs.orders.TreeEquations.{reads_end_by}
use Rattle.ftl_grammar.specs.declared.syntax.rules.Grammar.{Grammar}
use Rattle.ftl_meaning.specs.faults.FirstFault.{first_fault}
use Rattle.ftl_meaning.specs.grammars.GrammarOf.{grammar_of}
use Rattle.ftl_meaning.specs.lawful.Faultless.{IsFaultless, IsSpelled}
use Rattle.ftl_meaning.specs.lawful.LawfulOf.{StaysInRange}
use Rattle.ftl_meaning.proofs.lawful.Lawfulness.{faultless_lawful}
use Rattle.ftl_meaning.proofs.faults.SpelledKinds.{spelled_kinds}
use Rattle.ftl_meaning.proofs.lawful.lawful.faultless_grammars_are_lawful.Goals as goal

-- under an ordered schedule chains of reads end, so values stay in the range
stays : (g : AttributeGrammar) → IsLawful g → StaysInRange g
stays g law s t ordered fits table solves i valid =
    let ends =
    reads_end_by g law t fits (read_rank g (placing_of s) t)
    (rank_falls g (placing_of s) t (placing_of-one_kind s) law ordered.pairs fits) in
    value_in_range g law t fits table solves (suc (read_rank g (placing_of s) t i)) i valid (ends i valid)

abbrev meant : Grammar → Width → AttributeGrammar
meant g width = grammar_of (greatest_of_width width) g

spelled : (g : Grammar) → IsSpelled g → first_fault g ≡ None → IsFaultless g
spelled g tokens none = record { faults = none; kinds = spelled_kinds tokens.1 }

pub returns : goal.returns
returns c = record {
  lawful = faultless_lawful;
  one_table =
      λ g width h s t ordered fits. one_table_under (meant g width) s t (faultless_lawful g width h) ordered.pairs fits;
  one_list =
      λ g width h s t ordered fits. one_list_under (meant g width) s t (faultless_lawful g width h) ordered.pairs fits;
  in_range = λ g width h. stays (meant g width) (faultless_lawful g width h);
  spelled = spelled;
}
