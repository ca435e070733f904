use Rattle.ftl_cursors.proofs.item_cursor.SteplessItems.{no_item_steps}
use Rattle.ftl_cursors.proofs.item_cursor.laws.items_without_steps.Goals as goal

pub returns : goal.returns
returns c = record { none = no_item_steps }
