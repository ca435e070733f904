use Rattle.std.proofs.Common.{refl, ◌∙◌, ap}
use Rattle.std.specs.List.{list_any}
use Rattle.ftl_meaning.specs.faults.FirstFault.{same_slot}
use Rattle.ftl_checked.specs.grammars.Slots.{slot_in}
use Rattle.ftl_checked.specs.contracts.grammars.slots.RuleSlotPartialEq.TheImpl as block
use Rattle.ftl_checked.proofs.grammars.SlotSets.{any_slot}
use Rattle.ftl_checked.proofs.grammars.slots.Ruled.has.Goals as goal

pub returns : goal.returns
returns c = record {
  has =
      c.contains.ensures
      ∙ any_slot block.ghosts.eq (record { own_own = λ a b. refl; own_kid = λ a k b. refl; kid_own = λ k a b. refl; kid_kid = λ k a l b. refl })
      c.args.slot c.self.inside.slots.keys
      ∙ ap (list_any (same_slot (slot_in c.args.slot))) c.self.view_is;
}
