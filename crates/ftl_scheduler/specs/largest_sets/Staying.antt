-- What can't stay in a list: what has no place or needs what is not done, and what uses that.
use Rattle.std.specs.Prelude.{◌≡◌, ◌⊎◌, ℕ, ◌&&◌, not, Bool, true, false, List, Contains, slice_index_or}
use Rattle.std.specs.FinSet as set
use Rattle.lane_rows.specs.Matrix.{entry}
use Rattle.ftl_scheduler.specs.largest_sets.Rows.{Has, Row}

-- all that an attribute needs done is
abbrev pub has_late : List Row → Row → ℕ → Bool
has_late late done b = set.is_subset (slice_index_or late b set.empty) done

-- the attribute has no place, or needs what is not done
abbrev pub is_first : (late : List Row) (all done placed : Row) → ℕ → Bool
is_first late all done placed b = set.contains all b && not (set.contains placed b && has_late late done b)

-- the list can stay: it has nothing that leaves or is done, and what it uses is done or in it
pub record CanStay (users : List Row) (done leaving : Row) (kept : List ℕ) : Type 0 where
  pub stays : (b : ℕ) → Contains kept b → set.contains leaving b ≡ false
  pub not_done : (b : ℕ) → Contains kept b → set.contains done b ≡ false
  pub used : (x b : ℕ) → Contains kept b → entry users x b ≡ true → Has done x ⊎ Contains kept x

-- what leaves at first, what is done, what uses what leaves, and nothing of a list that can stay
pub record IsClosure (users : List Row) (done first taken : Row) : Type 0 where
  pub leaves : (b : ℕ) → Has first b → Has taken b
  pub has_done : (b : ℕ) → Has done b → Has taken b
  pub closed : (x b : ℕ) → Has taken x → set.contains done x ≡ false → entry users x b ≡ true → Has taken b
  pub spares : (kept : List ℕ) → CanStay users done first kept → (b : ℕ) → Contains kept b → set.contains taken b ≡ false
