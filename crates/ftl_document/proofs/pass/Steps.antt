-- The names, marks and inputs that a pass takes.
use Rattle.std.proofs.Common.{◌≡◌, ℕ, ◌+◌, ◌<◌, ◌≤◌, sym, ap, ◌∙◌, subst, arith, List, [], ◌∷◌, length, ℤ, ⊎_elim, Result, Ok, Err, Option, Some, None}
use Rattle.std.specs.Prelude.{IfSome, OnOk}
use Rattle.std.proofs.lemmas.Bool.{cases_lt}
use Rattle.ftl_base.specs.Widths.{greatest_of_width}
use Rattle.ftl_base.specs.declared.width.Width.{Width}
use Rattle.ftl_base.specs.declared.width.Width.TheVariants.{Narrow, Wide}
use Rattle.ftl_tokens.specs.declared.scanner.kind.Kind.TheVariants as kind
use Rattle.ftl_tokens.specs.scanner.Tokenized.{name, fixed}
use Rattle.ftl_tokens.specs.reading.Reader.{Tokens}
use Rattle.ftl_meaning.specs.faults.Numbering.{class_at, interface_of}
use Rattle.ftl_tree.specs.declared.rows.row.NodeRow.{NodeRow}
use Rattle.ftl_document.specs.plain.Plain.{plain_tokens}
use Rattle.ftl_document.specs.syntax.Written.{NameText}
use Rattle.ftl_document.specs.declared.pass.nodes.ClassAt.{ClassAt}
use Rattle.ftl_document.specs.declared.pass.nodes.Pass.{Pass}
use Rattle.ftl_document.specs.declared.pass.passed.Passed.{Passed}
use Rattle.ftl_document.specs.pass.Good.{AreInputs, State, before, input_more}
use Rattle.ftl_document.specs.pass.Parts.{Begins, state_of}
use Rattle.ftl_document.specs.pass.Steps.{IsClassAt, IsClassBefore, IsInputTaken}

-- a state by its parts
abbrev pub state : Tokens → List NodeRow → List ℤ → ℕ → State
state tokens rows inputs count = record { tokens = tokens; rows = rows; inputs = inputs; count = count }

-- what holds of each number below one and of that one holds of each below the next
pub up_to : (P : ℕ → Type 0) (n : ℕ) → ((k : ℕ) → k < n → P k) → P n → (k : ℕ) → k < n + 1 → P k
up_to P n below here k within =
    ⊎_elim (λ less. below k less)
    (λ least. let same : n ≡ k = omega (arith, within, least) in subst P same here)
    (cases_lt k n)

-- what follows of a success holds of one
pub on_ok : {A E P Q : Type 0} → (r : Result A E) → OnOk r P → (P → Q) → OnOk r Q
on_ok (Ok x) h f = f h
on_ok (Err e) h f = tt

-- the greatest number of a width
pub width_small : (greatest : ℕ) (w : Width) → greatest ≡ greatest_of_width w → greatest ≤ 140737488355327
width_small greatest Narrow is = omega (arith, is)
width_small greatest Wide is = omega (arith, is)

-- ---- a class, a field and an input

pub field_taken : (greatest : ℕ) (old : Passed) (x : NameText) (rest : List ℕ) (new : State)
    → Begins old.rest.now (name x ∷ []) rest
    → state (plain_tokens greatest rest) old.rows.items old.inputs.items old.count ≡ before (fixed kind.Equals ∷ []) new
    → state_of greatest old ≡ before (name x ∷ fixed kind.Equals ∷ []) new
field_taken greatest old x rest new begins e =
    ap (λ (ts : Tokens). state ts old.rows.items old.inputs.items old.count) (begins greatest)
    ∙ ap (before (name x ∷ [])) e

pub class_taken : (p : Pass) (wanted : ℕ) (old : Passed) (found : ClassAt) (mid new : State)
    → IsClassAt p wanted old.rest.now found
    → mid ≡ state (plain_tokens p.greatest found.rest.now) old.rows.items old.inputs.items old.count → new ≡ mid
    → IsClassBefore p.checked.now.grammar wanted found.class (state_of p.greatest old) new
class_taken p wanted old found mid new h is same =
    record {
      known = h.known;
      interface = h.interface;
      taken =
          ap (λ (ts : Tokens). state ts old.rows.items old.inputs.items old.count) (h.begins p.greatest)
          ∙ ap (before (name (class_at p.checked.now.grammar found.class).name ∷ [])) (sym is ∙ sym same);
    }

pub class_stands : (p : Pass) (wanted k : ℕ) (bytes : List ℕ) (found : ClassAt) → found.class ≡ k
    → k < length p.checked.now.grammar.classes → interface_of p.checked.now.grammar k ≡ wanted
    → Begins bytes (name (class_at p.checked.now.grammar k).name ∷ []) found.rest.now → IsClassAt p wanted bytes found
class_stands p wanted k bytes found same known interface begins =
    record {
      known = subst (λ j. j < length p.checked.now.grammar.classes) (sym same) known;
      interface = ap (interface_of p.checked.now.grammar) same ∙ interface;
      begins =
          subst (λ j. Begins bytes (name (class_at p.checked.now.grammar j).name ∷ []) found.rest.now) (sym same) begins;
    }

-- it may stand behind a gap
pub class_behind : (p : Pass) (wanted : ℕ) (bytes behind : List ℕ) (o : Option ClassAt)
    → ((greatest : ℕ) → plain_tokens greatest bytes ≡ plain_tokens greatest behind)
    → IfSome o (IsClassAt p wanted behind) → IfSome o (IsClassAt p wanted bytes)
class_behind p wanted bytes behind None same h = h
class_behind p wanted bytes behind (Some found) same h =
    record { known = h.known; interface = h.interface; begins = λ greatest. same greatest ∙ h.begins greatest }

pub input_step : (greatest : ℕ) (x : NameText) (names : List NameText) (s m u t : State)
    → s ≡ before (name x ∷ fixed kind.Equals ∷ []) m → IsInputTaken greatest m u → AreInputs greatest names u t
    → AreInputs greatest (x ∷ names) s t
input_step greatest x names s m u t e h rest =
    input_more h.spells h.input (e ∙ ap (before (name x ∷ fixed kind.Equals ∷ [])) h.taken)
    (subst (λ (q : State). AreInputs greatest names q t) h.is rest)
