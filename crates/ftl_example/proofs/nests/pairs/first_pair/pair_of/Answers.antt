use Rattle.std.proofs.Common.{◌≡◌, ◌<◌, ap, sym, ◌∙◌, subst, arith, length, get_or}
use Rattle.ftl_model.specs.layout.AttributeGrammar.{Parts}
use Rattle.ftl_model.specs.layout.Solves.{rule_named}
use Rattle.ftl_order.specs.declared.dependencies.dep_read.DepRead.{DepRead}
use Rattle.ftl_order.specs.dependencies.DepLaws.{where_of}
use Rattle.ftl_nests.specs.Nests.{nest_placing_of}
use Rattle.ftl_meaning.proofs.lawful.Lawfulness.{faultless_lawful}
use Rattle.ftl_deps.proofs.reads.RuleNumbers.{info_is}
use Rattle.ftl_deps.specs.reads.Meant.{meant}
use Rattle.ftl_deps.specs.reads.Products.{name_of_info}
use Rattle.ftl_schedule.proofs.check.RuleCount.{rules_counted}
use Rattle.ftl_schedule.specs.check.RuleAt.{rule_at}
use Rattle.ftl_nest_check.specs.stages.Nested.{nests_of}
use Rattle.ftl_example.specs.pairs.FirstPair.{placed, placed_at}
use Rattle.ftl_example.specs.pairs.PairMeant.{part_meant}
use Rattle.ftl_example.specs.sizes.Place.{goes_over}
use Rattle.ftl_example.proofs.pairs.FoundPair.{class_there, row_is}
use Rattle.ftl_example.proofs.nests.pairs.FoundNestPair.{found_pair, place_in, writer_there}
use Rattle.ftl_example.proofs.nests.pairs.first_pair.pair_of.Goals as goal

pub placed_read-read-requires : goal.placed_read-read-requires
placed_read-read-requires c =
    let checked = c.args.checked.now in
    let g = meant checked in
    let at = nest_placing_of (nests_of c.args.placed.now) in
    let none = c.grammar.ensures.lawful in
    let r = c.args.found.reader in
    let w = c.args.found.writer in
    let place = c.args.found.place in
    let first = c.requires.found in
    let known_reader = first.known in
    let rules = rules_counted checked none in
    let row =
    row_is g c.in_ok-parts.parts c.in_ok-parts.ensures.parts r known_reader c.index-as_slice-found.result
    (c.index-as_slice-found.is ∙ ap (λ xs. get_or xs r c.index-as_slice-found.result) c.as_slice.ensures) in
    record { within = subst (λ (x : Parts). place < length (placed x)) (sym row) (place_in g at r place w first) }

pub read_of-site-requires-clause-within : goal.read_of-site-requires-clause-within
read_of-site-requires-clause-within c =
    let checked = c.args.checked.now in
    let g = meant checked in
    let at = nest_placing_of (nests_of c.args.placed.now) in
    let none = c.grammar.ensures.lawful in
    let r = c.args.found.reader in
    let w = c.args.found.writer in
    let place = c.args.found.place in
    let first = c.requires.found in
    let known_reader = first.known in
    let rules = rules_counted checked none in
    omega (arith, known_reader, rules)

pub rule-requires : goal.rule-requires
rule-requires c =
    let checked = c.args.checked.now in
    let g = meant checked in
    let at = nest_placing_of (nests_of c.args.placed.now) in
    let none = c.grammar.ensures.lawful in
    let r = c.args.found.reader in
    let w = c.args.found.writer in
    let place = c.args.found.place in
    let first = c.requires.found in
    let known_reader = first.known in
    let rules = rules_counted checked none in
    record { within = omega (arith, known_reader, rules) }

pub rule-requires-2 : goal.rule-requires-2
rule-requires-2 c =
    let checked = c.args.checked.now in
    let g = meant checked in
    let at = nest_placing_of (nests_of c.args.placed.now) in
    let none = c.grammar.ensures.lawful in
    let r = c.args.found.reader in
    let w = c.args.found.writer in
    let place = c.args.found.place in
    let first = c.requires.found in
    let known_reader = first.known in
    let rules = rules_counted checked none in
    let known_writer = writer_there g at r place w first in
    record { within = omega (arith, known_writer, rules) }

pub returns-clause-known : goal.returns-clause-known
returns-clause-known c =
    let checked = c.args.checked.now in
    let g = meant checked in
    let at = nest_placing_of (nests_of c.args.placed.now) in
    let none = c.grammar.ensures.lawful in
    let r = c.args.found.reader in
    let w = c.args.found.writer in
    let place = c.args.found.place in
    let first = c.requires.found in
    let known_reader = first.known in
    let rules = rules_counted checked none in
    let row =
    row_is g c.in_ok-parts.parts c.in_ok-parts.ensures.parts r known_reader c.index-as_slice-found.result
    (c.index-as_slice-found.is ∙ ap (λ xs. get_or xs r c.index-as_slice-found.result) c.as_slice.ensures) in
    let law =
    faultless_lawful checked.grammar checked.width (record { faults = none; kinds = c.grammar.ensures.kinds }) in
    let known_writer = writer_there g at r place w first in
    let reader : name_of_info c.rule.result ≡ rule_at g r =
    ap name_of_info c.rule.ensures.info ∙ sym (info_is checked none r (omega (arith, known_reader, rules))) in
    let writer : name_of_info c.rule-2.result ≡ rule_at g w =
    ap name_of_info c.rule-2.ensures.info ∙ sym (info_is checked none w (omega (arith, known_writer, rules))) in
    record {
      reader = class_there g law c.rule.result r reader known_reader;
      writer = class_there g law c.rule-2.result w writer known_writer;
      over = λ d.
          ap (λ v. goes_over (rule_named g v).parts (part_meant c.placed_read-read.result.part) d) reader
          ∙ ap (λ (x : Parts). goes_over x (part_meant c.placed_read-read.result.part) d) (sym row)
          ∙ c.placed_read-read.ensures.over d;
    }

pub returns-clause-pair : goal.returns-clause-pair
returns-clause-pair c =
    let checked = c.args.checked.now in
    let g = meant checked in
    let at = nest_placing_of (nests_of c.args.placed.now) in
    let none = c.grammar.ensures.lawful in
    let r = c.args.found.reader in
    let w = c.args.found.writer in
    let place = c.args.found.place in
    let first = c.requires.found in
    let known_reader = first.known in
    let rules = rules_counted checked none in
    let row =
    row_is g c.in_ok-parts.parts c.in_ok-parts.ensures.parts r known_reader c.index-as_slice-found.result
    (c.index-as_slice-found.is ∙ ap (λ xs. get_or xs r c.index-as_slice-found.result) c.as_slice.ensures) in
    let law =
    faultless_lawful checked.grammar checked.width (record { faults = none; kinds = c.grammar.ensures.kinds }) in
    let known_writer = writer_there g at r place w first in
    let reader : name_of_info c.rule.result ≡ rule_at g r =
    ap name_of_info c.rule.ensures.info ∙ sym (info_is checked none r (omega (arith, known_reader, rules))) in
    let writer : name_of_info c.rule-2.result ≡ rule_at g w =
    ap name_of_info c.rule-2.ensures.info ∙ sym (info_is checked none w (omega (arith, known_writer, rules))) in
    found_pair g at r place w first law
    (record {
      reader = c.rule.result;
      part = c.placed_read-read.result.part;
      over = c.placed_read-read.result.over;
      read = c.placed_read-read.result.read;
      writer = c.rule-2.result;
      runs_at = c.writer_node.result;
    }) reader writer
    (ap (λ (x : Parts). placed_at x place) (sym row) ∙ c.placed_read-read.ensures.read)
    (λ x is. c.writer_node.ensures.node x (ap (λ (d : DepRead). where_of d.site) c.read_of-site.ensures.read ∙ is))
