use Rattle.std.proofs.Common.{◌≡◌}
use Rattle.ftl_pool.specs.Deque.{AllTakeOutside}
use Rattle.ftl_pool.specs.Pool.{KeepsDeques}
use Rattle.ftl_pool.proofs.steal_pool.StealHold.find.Given as goal

abbrev pub invariant-loop : goal.invariant-loop
invariant-loop g l = record {
  can : (goal.iterator-loop g).can_next l.iterator';
  finite : (goal.iterator-loop g).is_finite l.iterator';
  hold : l.self.hold ≡ l.initial.self.hold;
  deques : KeepsDeques l.initial.self l.self;
  outside : AllTakeOutside l.items l.initial.self.taken l.self.taken;
}
