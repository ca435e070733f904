use Rattle.ftl_document.proofs.fields.SlotInputs.{heads_kept, inputs_held}
use Rattle.ftl_document.proofs.fields.laws.slots_hold_inputs.Goals as goal

pub returns : goal.returns
returns c =
    record {
      heads = heads_kept;
      inputs = λ g n k fields lawful known fine all. inputs_held g lawful n k known fields fine all;
    }
