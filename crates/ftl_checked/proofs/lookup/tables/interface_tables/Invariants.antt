use Rattle.std.proofs.Common.{◌≡◌, ◌++◌, map, take, drop}
use Rattle.ftl_meaning.specs.faults.Numbering.{numbered, shared_count}
use Rattle.ftl_checked.specs.lookup.Tables.{interface_table}
use Rattle.ftl_checked.proofs.lookup.tables.interface_tables.Given as goal

abbrev pub invariant-loop-interface : goal.invariant-loop-interface
invariant-loop-interface l = record {
  built : l.tables ++ map (λ x. interface_table (shared_count (take x.0 l.interfaces)) x.1) (numbered l.interface-index (drop l.interface-index l.interfaces))
      ≡ map (λ x. interface_table (shared_count (take x.0 l.interfaces)) x.1) (numbered 0 l.interfaces);
  at : l.start ≡ shared_count (take l.interface-index l.interfaces);
}
