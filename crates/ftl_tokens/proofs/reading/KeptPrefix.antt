-- When a reader keeps the correct prefix: what was read is spelled, and what stands before a refused token goes on to
-- tokens that spell something.
use Rattle.std.proofs.Common.{◌≡◌, [], ◌++◌, Ok, Err, Option, sym, refl, ap, ◌∙◌, subst, append_assoc}
use Rattle.ftl_tokens.specs.declared.scanner.kind.Kind.{Kind}
use Rattle.ftl_tokens.specs.reading.Reader.{Tokens, ReadResult, Reader, and_then, ◌>>=◌, pure, refuse, next_kind}

-- a front of the tokens spells the value, and these are left
pub record Taken {A : Type 0} (Spells : Tokens → A → Type 0) (ts : Tokens) (x : A) (rest : Tokens) : Type 0 where
  pub front : Tokens
  pub spells : Spells front x
  pub split : ts ≡ front ++ rest

-- what stands before these goes on to tokens that spell a value
pub record Grown {A : Type 0} (Spells : Tokens → A → Type 0) (ts rest : Tokens) : Type 0 where
  pub front : Tokens
  pub more : Tokens
  pub value : A
  pub spells : Spells (front ++ more) value
  pub split : ts ≡ front ++ rest

-- tokens that spell a value
pub record Example {A : Type 0} (Spells : Tokens → A → Type 0) : Type 0 where
  pub tokens : Tokens
  pub value : A
  pub spells : Spells tokens value

-- an example, by its parts
pub example : {A : Type 0} {Spells : Tokens → A → Type 0} (tokens : Tokens) (x : A) → Spells tokens x → Example Spells
example tokens x spells = record { tokens = tokens; value = x; spells = spells }

-- what this answer says of the tokens
abbrev pub HasPrefix : {A : Type 0} → (Tokens → A → Type 0) → ReadResult A → Tokens → Type 0
HasPrefix Spells (Ok p) ts = Taken Spells ts p.0 p.1
HasPrefix Spells (Err rest) ts = Grown Spells ts rest

-- each answer of the reader says so
pub record KeepsPrefix {A : Type 0} (Spells : Tokens → A → Type 0) (p : Reader A) : Type 0 where
  pub keeps : (ts : Tokens) → HasPrefix Spells (p ts) ts

-- each answer on tokens whose first is of this kind
pub record KeepsPrefixAt {A : Type 0} (kind : Option Kind) (Spells : Tokens → A → Type 0) (p : Reader A) : Type 0 where
  pub keeps : (ts : Tokens) → next_kind ts ≡ kind → HasPrefix Spells (p ts) ts

-- what may follow the front
abbrev pub After : {A : Type 0} → Tokens → (Tokens → A → Type 0) → Tokens → A → Type 0
After front Spells = λ b y. Spells (front ++ b) y

-- what holds after a front holds of the whole
pub prefix_after : {A : Type 0} (Spells : Tokens → A → Type 0) (front rest ts : Tokens) (o : ReadResult A)
    → ts ≡ front ++ rest → HasPrefix (After front Spells) o rest → HasPrefix Spells o ts
prefix_after Spells front rest ts (Ok p) e taken =
    record {
      front = front ++ taken.front;
      spells = taken.spells;
      split = e ∙ ap (λ l. front ++ l) taken.split ∙ sym (append_assoc front taken.front p.1);
    }
prefix_after Spells front rest ts (Err left) e grown =
    record {
      front = front ++ grown.front;
      more = grown.more;
      value = grown.value;
      spells = subst (λ l. Spells l grown.value) (sym (append_assoc front grown.front grown.more)) grown.spells;
      split = e ∙ ap (λ l. front ++ l) grown.split ∙ sym (append_assoc front grown.front left);
    }

-- One step after another: what holds of the second holds behind what the first took, and the rule can be ended there.
pub bind_prefix : {A B : Type 0} {P : Tokens → A → Type 0} {S : Tokens → B → Type 0} {p : Reader A} {f : A → Reader B}
    → KeepsPrefix P p
    → ((a : Tokens) (x : A) → P a x → Example (After a S))
    → ((a : Tokens) (x : A) → P a x → KeepsPrefix (After a S) (f x))
    → KeepsPrefix S (p >>= f)
bind_prefix {A} {B} {P} {S} {p} {f} told example next = record { keeps = λ ts. go ts (p ts) (told.keeps ts) }
  where
    go : (ts : Tokens) (o : ReadResult A) → HasPrefix P o ts → HasPrefix S (and_then o f) ts
    go ts (Ok q) taken =
        prefix_after S taken.front q.1 ts (f q.0 q.1) taken.split ((next taken.front q.0 taken.spells).keeps q.1)
    go ts (Err rest) grown =
        let read = grown.front ++ grown.more in
        let more : Example (After read S) = example read grown.value grown.spells in
        record {
          front = grown.front;
          more = grown.more ++ more.tokens;
          value = more.value;
          spells = subst (λ l. S l more.value) (append_assoc grown.front grown.more more.tokens) more.spells;
          split = grown.split;
        }

-- a step whose value is turned into another
pub map_prefix : {A B : Type 0} {P : Tokens → A → Type 0} {S : Tokens → B → Type 0} {p : Reader A} (g : A → B)
    → KeepsPrefix P p
    → ((a : Tokens) (x : A) → P a x → S a (g x))
    → KeepsPrefix S (p >>= (λ x. pure (g x)))
map_prefix {A} {B} {P} {S} {p} g told turn = record { keeps = λ ts. go ts (p ts) (told.keeps ts) }
  where
    go : (ts : Tokens) (o : ReadResult A) → HasPrefix P o ts → HasPrefix S (and_then o (λ x. pure (g x))) ts
    go ts (Ok q) taken =
        record { front = taken.front; spells = turn taken.front q.0 taken.spells; split = taken.split }
    go ts (Err rest) grown =
        record {
          front = grown.front;
          more = grown.more;
          value = g grown.value;
          spells = turn (grown.front ++ grown.more) grown.value grown.spells;
          split = grown.split;
        }

-- a reader that takes nothing
pub pure_prefix : {A : Type 0} {S : Tokens → A → Type 0} {x : A} → S [] x → KeepsPrefix S (pure x)
pure_prefix spells = record { keeps = λ ts. record { front = []; spells = spells; split = refl } }

-- a reader that refuses
pub refuse_prefix : {A : Type 0} {S : Tokens → A → Type 0} → Example S → KeepsPrefix S refuse
refuse_prefix example =
    record {
      keeps = λ ts.
          record { front = []; more = example.tokens; value = example.value; spells = example.spells; split = refl };
    }

-- what holds of one relation holds of a wider one
pub wider_prefix : {A : Type 0} {S T : Tokens → A → Type 0} {p : Reader A}
    → ((a : Tokens) (x : A) → S a x → T a x) → KeepsPrefix S p → KeepsPrefix T p
wider_prefix {A} {S} {T} {p} widen told = record { keeps = λ ts. go ts (p ts) (told.keeps ts) }
  where
    go : (ts : Tokens) (o : ReadResult A) → HasPrefix S o ts → HasPrefix T o ts
    go ts (Ok q) taken =
        record { front = taken.front; spells = widen taken.front q.0 taken.spells; split = taken.split }
    go ts (Err rest) grown =
        record {
          front = grown.front;
          more = grown.more;
          value = grown.value;
          spells = widen (grown.front ++ grown.more) grown.value grown.spells;
          split = grown.split;
        }

-- a reader that is chosen by the kind of the next token
pub look_prefix : {A : Type 0} {S : Tokens → A → Type 0} (p : Option Kind → Reader A)
    → ((kind : Option Kind) → KeepsPrefixAt kind S (p kind)) → KeepsPrefix S (λ ts. p (next_kind ts) ts)
look_prefix p each = record { keeps = λ ts. (each (next_kind ts)).keeps ts refl }

-- what holds of all tokens holds of those of a kind
pub at_any : {A : Type 0} {kind : Option Kind} {S : Tokens → A → Type 0} {p : Reader A} → KeepsPrefix S p → KeepsPrefixAt kind S p
at_any told = record { keeps = λ ts e. told.keeps ts }
