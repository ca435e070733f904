use Rattle.std.proofs.Common.{arith, ◌≡◌, ℕ, List, false, true, subst, Some, cond}
use Rattle.std.specs.HashMap.{get_by_text}
use Rattle.std.specs.Option.{is_some}
use Rattle.std.specs.Str.{bytes_eq}
use Rattle.std.specs.String.{string_bytes}
use Rattle.std.proofs.lemmas.Grind.{common_steps}
use Rattle.std.proofs.lemmas.Map.Text.{hash_map_updates_text}
use Rattle.ftl_checked.proofs.names.Places.{adds-nothing, adds-one}
use Rattle.ftl_checked.proofs.names.table.add.Goals as goal

pub returns-in_ok-insert : goal.returns-in_ok-insert
returns-in_ok-insert c = record {
  added = λ before same finds.
      let name = c.args.name.now in
      let key = string_bytes c.in_ok-from_str.field-0 in
      let is_name : key ≡ name = grind (arith, common_steps) in
      let after = hash_map_updates_text key c.args.places.now c.insert.new.self (Some c.args.place) c.in_ok-insert.ensures.updates in
      let P : List ℕ → Type 0 = λ k. (q : List ℕ) → get_by_text c.insert.new.self q ≡ cond (bytes_eq k q) (Some c.args.place) (get_by_text c.args.places.now q) in
      let absent : is_some (get_by_text c.args.places.now name) ≡ false = grind (arith, common_steps) in
      adds-one (get_by_text c.args.places.now) (get_by_text c.insert.new.self) before name c.args.place finds
      absent same (subst P is_name after);
}

pub returns-else-is_none : goal.returns-else-is_none
returns-else-is_none c = record {
  added = λ before same finds.
      let found : is_some (get_by_text c.args.places.now c.args.name.now) ≡ true = grind (arith, common_steps) in
      adds-nothing (get_by_text c.args.places.now) before c.args.name.now finds found;
}
