use Rattle.std.proofs.Common.{arith, ◌≡◌, ℕ, List, length, subst, sym}
use Rattle.std.proofs.lemmas.Grind.{common_steps}
use Rattle.std.proofs.lemmas.List.{length-replicate}
use Rattle.ftl_schedule.specs.places.Entries.{all_entries, attributes_of}
use Rattle.ftl_schedule.specs.places.Placed.{AreBelow}
use Rattle.ftl_schedule.specs.declared.places.entries.Entry.{Entry}
use Rattle.ftl_schedule.proofs.places.EntryLists.{entries_below}
use Rattle.ftl_schedule.proofs.places.placed.Placed.new.Goals as goal

-- the entries are those of the schedule, whose attributes are known
pub fill-requires-clause-below : goal.fill-requires-clause-below
fill-requires-clause-below c =
    let s = c.args.schedule in
    let these : all_entries s ≡ c.as_slice.result.now = grind (arith, common_steps) in
    let count : c.args.attr_count ≡ length c.in_ok-places.places =
    grind (arith, common_steps, length-replicate) in
    subst (λ (n : ℕ). AreBelow n (attributes_of c.as_slice.result.now)) count
    (subst (λ (es : List Entry). AreBelow c.args.attr_count (attributes_of es)) these
    (entries_below s c.args.attr_count c.requires.known))
