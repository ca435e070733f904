-- What a step does for its caller, by the hand before, the number found and the hand after.
use Rattle.std.specs.Prelude.{◌≡◌, ◌≢◌, ℕ, suc, ◌+◌, ◌≤◌, Some}
use Rattle.ftl_model.specs.layout.Values.{IsValue}
use Rattle.atomic_table.specs.Table.{Step, Me}
use Rattle.ftl_cells.specs.shared.Work.{next_at, target_of, read_of, solution_at, solved_word}
use Rattle.ftl_cells.specs.shared.State.{Place, live, HandState, after, after_delivery, load_counter, claim, load_cell}
use Rattle.ftl_cells.specs.shared.State.{store_cell, mark, delivery, Sends, end_word, cell_word, state_word, count_word}
use Rattle.ftl_cells.specs.shared.Interleavings.{IsNextState}
use Rattle.ftl_cells.specs.declared.shared.place.HandPlace.TheVariants.{Idle, Looked, Working, Filled, Ended}

abbrev pub Known : Type 0
Known = Me ℕ HandState

-- the hand's state is this now, and it holds what it held
abbrev pub IsNow : Known → HandState → Known → Type 0
IsNow me w new = new ≡ (w, me.1)

pub record LookEffect (me : Known) (item n : ℕ) (new : Known) : Type 0 where
  pub ready : n ≡ 0 → IsNow me (after me.0 (live (Looked item)) load_counter (count_word me.0.of item) (Some 0)) new
  pub waiting : n ≢ 0 → IsNow me (after me.0 (live Idle) load_counter (count_word me.0.of item) (Some n)) new

pub record ClaimEffect (me : Known) (item n : ℕ) (new : Known) : Type 0 where
  pub bound : n ≤ 2
  pub mine : n ≡ 0 → IsNow me (after me.0 (live (Working item 0 0)) claim (state_word me.0.of item) (Some 0)) new
  pub taken : n ≢ 0 → IsNow me (after me.0 (live Idle) claim (state_word me.0.of item) (Some n)) new

pub record ReadEffect (me : Known) (item step reads n : ℕ) (new : Known) : Type 0 where
  pub word : n ≡ solved_word me.0.of (read_of me.0.of item step reads)
  pub value : IsValue (solution_at me.0.of (read_of me.0.of item step reads))
  pub now : IsNow me
      (after me.0 (live (Working item step (reads + 1))) load_cell (cell_word (read_of me.0.of item step reads))
      (Some n)) new

abbrev pub FillEffect : Known → ℕ → ℕ → Known → Type 0
FillEffect me item step new = IsNow me
    (after me.0 (live (Working item (step + 1) 0)) store_cell (cell_word (target_of me.0.of item step)) (Some 0)) new

abbrev pub MarkEffect : Known → ℕ → Known → Type 0
MarkEffect me item new = IsNow me (after me.0 (live (Filled item)) mark (state_word me.0.of item) (Some 1)) new

pub record SendEffect (me : Known) (item sent n : ℕ) (new : Known) : Type 0 where
  pub left : ℕ
  pub found : n ≡ suc left
  pub now : IsNow me
      (after_delivery me.0 item sent (next_at me.0.of item sent)
      (count_word me.0.of (next_at me.0.of item sent)) left) new

pub record FinishEffect (me : Known) (n : ℕ) (new : Known) : Type 0 where
  pub left : ℕ
  pub found : n ≡ suc left
  pub now : IsNow me (after me.0 (live Idle) delivery end_word (Some (suc left))) new

pub record LeftEffect (me : Known) (n : ℕ) (new : Known) : Type 0 where
  pub done : n ≡ 0 → IsNow me (after me.0 (live Ended) load_counter end_word (Some 0)) new
  pub more : n ≢ 0 → IsNow me (after me.0 (live Idle) load_counter end_word (Some n)) new

-- the same by the place of the hand, or by the word of the step, and that this was one step of the hand
abbrev pub LookEffectAt : Step ℕ → Known → ℕ → Known → Type 0
LookEffectAt st me n new = (item : ℕ) → st.word ≡ count_word me.0.of item → LookEffect me item n new

abbrev pub look_effect : Step ℕ → Known → ℕ → Known → Type 0
look_effect st me n new = IsNextState me.0 new.0 × LookEffectAt st me n new

abbrev pub ClaimEffectAt : Known → Place → ℕ → Known → Type 0
ClaimEffectAt me (live (Looked item)) n new = ClaimEffect me item n new
ClaimEffectAt me p n new = Unit {0}

abbrev pub claim_effect : Step ℕ → Known → ℕ → Known → Type 0
claim_effect st me n new = IsNextState me.0 new.0 × ClaimEffectAt me me.0.place n new

abbrev pub ReadEffectAt : Known → Place → ℕ → Known → Type 0
ReadEffectAt me (live (Working item step reads)) n new = ReadEffect me item step reads n new
ReadEffectAt me p n new = Unit {0}

abbrev pub read_effect : Step ℕ → Known → ℕ → Known → Type 0
read_effect st me n new = IsNextState me.0 new.0 × ReadEffectAt me me.0.place n new

abbrev pub FillEffectAt : Known → Place → Known → Type 0
FillEffectAt me (live (Working item step reads)) new = FillEffect me item step new
FillEffectAt me p new = Unit {0}

abbrev pub fill_effect : Step ℕ → Known → ℕ → Known → Type 0
fill_effect st me n new = IsNextState me.0 new.0 × FillEffectAt me me.0.place new

abbrev pub MarkEffectAt : Known → Place → Known → Type 0
MarkEffectAt me (live (Working item step reads)) new = MarkEffect me item new
MarkEffectAt me p new = Unit {0}

abbrev pub mark_effect : Step ℕ → Known → ℕ → Known → Type 0
mark_effect st me n new = IsNextState me.0 new.0 × MarkEffectAt me me.0.place new

abbrev pub SendEffectAt : Known → ℕ → Known → Type 0
SendEffectAt me n new = (item sent : ℕ) → Sends me.0.place item sent → SendEffect me item sent n new

abbrev pub send_effect : Step ℕ → Known → ℕ → Known → Type 0
send_effect st me n new = IsNextState me.0 new.0 × SendEffectAt me n new

abbrev pub finish_effect : Step ℕ → Known → ℕ → Known → Type 0
finish_effect st me n new = IsNextState me.0 new.0 × FinishEffect me n new

abbrev pub left_effect : Step ℕ → Known → ℕ → Known → Type 0
left_effect st me n new = IsNextState me.0 new.0 × LeftEffect me n new
