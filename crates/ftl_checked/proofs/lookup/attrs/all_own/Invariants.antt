use Rattle.std.proofs.Common.{◌≡◌, ◌++◌, drop, flat_map}
use Rattle.ftl_meaning.specs.faults.Numbering.{numbered}
use Rattle.ftl_checked.specs.lookup.OwnerInfos.{own_infos}
use Rattle.ftl_checked.proofs.lookup.attrs.all_own.Given as goal

abbrev pub invariant-loop-number : goal.invariant-loop-number
invariant-loop-number l =
    l.infos ++ flat_map (own_infos l.grammar) (numbered l.number (drop l.number l.grammar.classes))
    ≡ l.initial.infos ++ flat_map (own_infos l.grammar) (numbered 0 l.grammar.classes)
