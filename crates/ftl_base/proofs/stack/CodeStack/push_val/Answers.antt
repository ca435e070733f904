use Rattle.std.proofs.Common.{arith, length-set, ◌∙◌}
use Rattle.ftl_base.proofs.RowsNow.{has_place, pushed_value}
use Rattle.ftl_base.proofs.stack.CodeStack.push_val.Goals as goal

pub index_mut-requires : goal.index_mut-requires
index_mut-requires c =
    let place = has_place _ _ c.self.view_is c.self.invariant c.requires.has_room in
    omega arith

pub index_mut-requires-2 : goal.index_mut-requires-2
index_mut-requires-2 c =
    let place = has_place _ _ c.self.view_is c.self.invariant c.requires.has_room in
    omega arith

pub overflow_add-self : goal.overflow_add-self
overflow_add-self c =
    let place = has_place _ _ c.self.view_is c.self.invariant c.requires.has_room in
    omega arith

pub invariant_of-self : goal.invariant_of-self
invariant_of-self c =
    let place = has_place _ _ c.self.view_is c.self.invariant c.requires.has_room in
    let rows = c.self.invariant in
    record {
      height = omega arith;
      values = length-set _ _ _ ∙ rows.values;
      truths = rows.truths;
      marks = length-set _ _ _ ∙ rows.marks;
    }

pub returns-clause-entries : goal.returns-clause-entries
returns-clause-entries c = pushed_value _ _ _ c.self.view_is c.self.invariant c.requires.has_room
