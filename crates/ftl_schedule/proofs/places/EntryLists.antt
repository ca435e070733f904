-- The attributes of a schedule's entries are those of its passes.
use Rattle.std.proofs.Common.{◌≡◌, ℕ, ◌+◌, ◌<◌, List, [], ◌∷◌, ◌++◌, map, flat_map, Contains, refl, sym, subst, ◌∙◌, ap, ap₂}
use Rattle.std.proofs.lemmas.List.{map-append}
use Rattle.ftl_model.proofs.lists.Elements.{here_in, later_in}
use Rattle.ftl_order.specs.orders.Schedule as order
use Rattle.ftl_order.specs.orders.Schedule.{entries}
use Rattle.ftl_schedule.specs.declared.syntax.kind.PassKind.{PassKind}
use Rattle.ftl_schedule.specs.stages.Stages.{pass_of, stages_of}
use Rattle.ftl_schedule.specs.declared.stages.types.Pass.{Pass}
use Rattle.ftl_schedule.specs.declared.stages.types.Stage.{Stage}
use Rattle.ftl_schedule.specs.declared.stages.types.Schedule.{Schedule}
use Rattle.ftl_schedule.specs.places.Entries.{all_entries, attributes_of, entries_from, passes_from, stages_from}
use Rattle.ftl_schedule.specs.places.Entries.{entries_of_pass, entries_of_stage}
use Rattle.ftl_schedule.specs.places.Placed.{AreBelow}
use Rattle.ftl_schedule.specs.declared.places.entries.Entry.{Entry}

-- a stage as a list of passes
abbrev pub passes_of : Stage → List order.Pass
passes_of stage = map pass_of stage.passes

-- the attributes of passes
abbrev pub listed_in : List order.Pass → List ℕ
listed_in passes = flat_map (λ (pass : order.Pass). pass.attributes) passes

pub attributes_of_pass : (stage pass : ℕ) (kind : PassKind) (n : ℕ) (attrs : List ℕ)
    → attributes_of (entries_from stage pass kind n attrs) ≡ attrs
attributes_of_pass s p k n [] = refl
attributes_of_pass s p k n (a ∷ attrs) = ap (λ l. a ∷ l) (attributes_of_pass s p k (n + 1) attrs)

pub attributes_of_passes : (stage n : ℕ) (ps : List Pass)
    → attributes_of (passes_from stage n ps) ≡ listed_in (map pass_of ps)
attributes_of_passes s n [] = refl
attributes_of_passes s n (p ∷ ps) =
    map-append (λ (e : Entry). e.attr) (entries_of_pass s n p.kind p.attrs) (passes_from s (n + 1) ps)
    ∙ ap₂ (λ a b. a ++ b) (attributes_of_pass s n p.kind 0 p.attrs) (attributes_of_passes s (n + 1) ps)

pub attributes_of_stages : (n : ℕ) (ss : List Stage) → attributes_of (stages_from n ss) ≡ entries (map passes_of ss)
attributes_of_stages n [] = refl
attributes_of_stages n (s ∷ ss) =
    map-append (λ (e : Entry). e.attr) (entries_of_stage n s.passes) (stages_from (n + 1) ss)
    ∙ ap₂ (λ a b. a ++ b) (attributes_of_passes n 0 s.passes) (attributes_of_stages (n + 1) ss)

pub attributes_of_entries : (s : Schedule) → attributes_of (all_entries s) ≡ entries (stages_of s)
attributes_of_entries s = attributes_of_stages 0 s.stages

-- numbers of a list that all are below another
pub are_below : (n : ℕ) (xs : List ℕ) → ((a : ℕ) → Contains xs a → a < n) → AreBelow n xs
are_below n [] each = tt
are_below n (x ∷ xs) each = (each x (here_in x xs), are_below n xs (λ a there. each a (later_in x a xs there)))

-- so are those of a schedule's entries
pub entries_below : (s : Schedule) (n : ℕ) → ((a : ℕ) → Contains (entries (stages_of s)) a → a < n)
    → AreBelow n (attributes_of (all_entries s))
entries_below s n each = subst (AreBelow n) (sym (attributes_of_entries s)) (are_below n (entries (stages_of s)) each)

-- the attributes of the entries
pub ruleset entry_steps = (attributes_of_entries, entries_below)
