use Rattle.std.proofs.Common.{◌≡◌, ◌<◌, ◌≤◌, [], ap, ap₂, arith, get_or, length, ◌∙◌, ◌+◌, ℕ, take}
use Rattle.std.proofs.lemmas.List.{get_or-map, get_or_default, length-map, take_all}
use Rattle.std.proofs.lemmas.List.Concat.{length-flat_map}
use Rattle.std.proofs.lemmas.List.Sums.{sum_by-take-le}
use Rattle.ftl_base.specs.Widths.{greatest_of_width}
use Rattle.ftl_grammar.specs.syntax.Trees as trees
use Rattle.ftl_grammar.specs.declared.syntax.rules.Class.{Class}
use Rattle.ftl_grammar.specs.declared.syntax.rules.Grammar.{Grammar}
use Rattle.ftl_grammar.specs.declared.syntax.rules.Interface.{Interface}
use Rattle.ftl_meaning.specs.faults.Numbering.{interface_of, own_count, shared_count}
use Rattle.ftl_meaning.proofs.lawful.RequiredRules.{interface_known}
use Rattle.ftl_tree.specs.trees.OwnerRuns.{own_counts, shared_counts}
use Rattle.ftl_tree.specs.rows.Rows.{sums_from}
use Rattle.ftl_tree.proofs.rows.Starts.{length-sums_from}
use Rattle.ftl_tree.proofs.trees.Classes.{few_attributes, first_own, first_shared, row_of_class}
use Rattle.ftl_tree.proofs.trees.class_table.class_row.Goals as goal

abbrev f : Interface → ℕ
f x = length x.attrs

abbrev k : Class → ℕ
k x = length x.attrs

pub index-requires : goal.index-requires
index-requires c =
    let g = c.args.checked.now.grammar in
    omega (
      arith,
      c.interface_of-interface.ensures.interface,
      interface_known g c.requires.lawful c.args.class c.requires.class,
      ap length c.requires.shared.firsts_are,
      length-sums_from 0 (shared_counts g),
      length-map g.interfaces f,
    )

pub index-requires-2 : goal.index-requires-2
index-requires-2 c =
    let g = c.args.checked.now.grammar in
    omega (
      arith,
      c.interface_of-interface.ensures.interface,
      interface_known g c.requires.lawful c.args.class c.requires.class,
      ap length c.requires.shared.counts_are,
      length-map g.interfaces f,
    )

pub index-requires-3 : goal.index-requires-3
index-requires-3 c =
    let g = c.args.checked.now.grammar in
    omega (arith, c.len.ensures, ap length c.requires.shared.counts_are, ap length c.requires.shared.firsts_are, length-sums_from 0 (shared_counts g), length-map g.interfaces f)

pub index-requires-4 : goal.index-requires-4
index-requires-4 c =
    let g = c.args.checked.now.grammar in
    omega (arith, c.requires.class, ap length c.requires.own.firsts_are, length-sums_from 0 (own_counts g), length-map g.classes k)

-- the classes before one have no more attributes than all
before : (g : Grammar) (c : ℕ) → own_count (take c g.classes) ≤ own_count g.classes
before g c = omega (arith, sum_by-take-le k g.classes c, length-flat_map (λ (x : Class). x.attrs) g.classes, length-flat_map (λ (x : Class). x.attrs) (take c g.classes))

pub overflow_add-result : goal.overflow_add-result
overflow_add-result c =
    let g = c.args.checked.now.grammar in
    let end : c.len.result ≡ length g.interfaces = omega (arith, c.len.ensures, ap length c.requires.shared.counts_are, length-map g.interfaces f) in
    let all = c.index-3.ensures ∙ ap₂ (λ xs n. get_or xs n c.index-3.result.now) c.requires.shared.firsts_are end
    ∙ get_or_default (sums_from 0 (shared_counts g)) (length g.interfaces) c.index-3.result.now 0 (omega (arith, length-sums_from 0 (shared_counts g), length-map g.interfaces f))
    ∙ first_shared g (length g.interfaces) (omega arith) ∙ ap shared_count (take_all (length g.interfaces) g.interfaces (omega arith)) in
    let own = c.index-4.ensures ∙ ap (λ xs. get_or xs c.args.class c.index-4.result.now) c.requires.own.firsts_are
    ∙ get_or_default (sums_from 0 (own_counts g)) c.args.class c.index-4.result.now 0 (omega (arith, c.requires.class, length-sums_from 0 (own_counts g), length-map g.classes k))
    ∙ first_own g c.args.class (omega (arith, c.requires.class)) in
    omega (arith, all, own, few_attributes g c.requires.lawful 0, before g c.args.class)

pub returns : goal.returns
returns c =
    let g = c.args.checked.now.grammar in
    let i = interface_of g c.args.class in
    let at : c.interface_of-interface.result ≡ i = c.interface_of-interface.ensures.interface in
    let known : i < length g.interfaces = interface_known g c.requires.lawful c.args.class c.requires.class in
    let end : c.len.result ≡ length g.interfaces = omega (arith, c.len.ensures, ap length c.requires.shared.counts_are, length-map g.interfaces f) in
    let first = c.index.ensures ∙ ap₂ (λ xs n. get_or xs n c.index.result.now) c.requires.shared.firsts_are at
    ∙ get_or_default (sums_from 0 (shared_counts g)) i c.index.result.now 0 (omega (arith, known, length-sums_from 0 (shared_counts g), length-map g.interfaces f))
    ∙ first_shared g i (omega (arith, known)) in
    let count = c.index-2.ensures ∙ ap₂ (λ xs n. get_or xs n c.index-2.result.now) c.requires.shared.counts_are at
    ∙ get_or-map f g.interfaces i (trees.interface [] [] []) c.index-2.result.now known in
    let all = c.index-3.ensures ∙ ap₂ (λ xs n. get_or xs n c.index-3.result.now) c.requires.shared.firsts_are end
    ∙ get_or_default (sums_from 0 (shared_counts g)) (length g.interfaces) c.index-3.result.now 0 (omega (arith, length-sums_from 0 (shared_counts g), length-map g.interfaces f))
    ∙ first_shared g (length g.interfaces) (omega arith) ∙ ap shared_count (take_all (length g.interfaces) g.interfaces (omega arith)) in
    let own = c.index-4.ensures ∙ ap (λ xs. get_or xs c.args.class c.index-4.result.now) c.requires.own.firsts_are
    ∙ get_or_default (sums_from 0 (own_counts g)) c.args.class c.index-4.result.now 0 (omega (arith, c.requires.class, length-sums_from 0 (own_counts g), length-map g.classes k))
    ∙ first_own g c.args.class (omega (arith, c.requires.class)) in
    let mine = c.index-5.ensures ∙ ap (λ xs. get_or xs c.args.class c.index-5.result.now) c.requires.own.counts_are
    ∙ get_or-map k g.classes c.args.class (trees.class [] [] [] [] []) c.index-5.result.now c.requires.class in
    record {
      row = row_of_class g c.requires.lawful (greatest_of_width c.args.checked.now.width) c.args.class _ c.requires.class first count (ap₂ (λ m n. m + n) all own) mine;
    }
