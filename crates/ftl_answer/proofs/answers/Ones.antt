-- Stages of one outcome, alone and one after the other.
use Rattle.std.proofs.Common.{◌≡◌, ◌≢◌, inl, inr, refl, sym, ap, subst, ◌∙◌, Option, Some, None, Result, Ok, Err}
use Rattle.ftl_answer.specs.answers.Answer.{Answer}
use Rattle.ftl_answer.specs.answers.Stages.{Is, Outcome, Stage, Then, ResultStage, ends, hands_on, unless}

-- a stage has one outcome
pub record HasOne {X : Type 0} (stage : Stage X) : Type 0 where
  pub some : (outcome : Outcome X) × stage outcome
  pub any_two : (one other : Outcome X) → stage one → stage other → one ≡ other

-- a stage has some outcome
abbrev pub HasSome : {X : Type 0} → Stage X → Type 0
HasSome stage = (outcome : _) × stage outcome

-- the end, at an outcome of this type
abbrev ended : (X : Type 0) → Answer → Outcome X
ended X a = ends a

-- the failure, as a result of these types
abbrev failed : (X : Type 0) {E : Type 0} → E → Result X E
failed X e = Err e

-- the answer at which an outcome ends
abbrev end_of : {X : Type 0} → Answer → Outcome X → Answer
end_of a (ends b) = b
end_of a (hands_on x) = a

-- the value that an outcome hands on
abbrev value_of : {X : Type 0} → X → Outcome X → X
value_of x (ends b) = x
value_of x (hands_on y) = y

pub same_end : {X : Type 0} (a b : Answer) → ended X a ≡ ended X b → a ≡ b
same_end a b e = ap (end_of a) e

pub same_value : {X : Type 0} (x y : X) → hands_on x ≡ hands_on y → x ≡ y
same_value x y e = ap (value_of x) e

-- one end is no value
pub end_is_no_value : {X : Type 0} (a : Answer) (x : X) → ends a ≡ hands_on x → ⊥
end_is_no_value a x e = cc

-- a stage of this outcome has one
pub is_one : {X : Type 0} (o : Outcome X) → HasOne (Is o)
is_one o = record { some = (o, refl); any_two = λ a b p q. p ∙ sym q }

-- two stages, one after the other, have some outcome that each have some
pub then_some : {X Y : Type 0} (first : Stage X) (second : X → Stage Y) → HasSome first
    → ((x : X) → first (hands_on x) → HasSome (second x)) → HasSome (Then first second)
then_some first second (ends a, p) next = (ends a, inl (a, p, refl))
then_some first second (hands_on x, p) next = let more = next x p in (more.0, inr (x, p, more.1))

-- so have two stages, one after the other, that each have one
pub then_one : {X Y : Type 0} (first : Stage X) (second : X → Stage Y) → HasOne first
    → ((x : X) → first (hands_on x) → HasOne (second x)) → HasOne (Then first second)
then_one {X = X} {Y = Y} first second one next = record {
  some = then_some first second one.some (λ x p. (next x p).some);
  any_two = any;
}
  where
    any : (o u : Outcome Y) → Then first second o → Then first second u → o ≡ u
    any o u (inl p) (inl q) =
        p.2 ∙ (ap ends (same_end p.0 q.0 (one.any_two (ends p.0) (ends q.0) p.1 q.1)) ∙ sym q.2)
    any o u (inl p) (inr q) = absurd (end_is_no_value p.0 q.0 (one.any_two (ends p.0) (hands_on q.0) p.1 q.1))
    any o u (inr p) (inl q) = absurd (end_is_no_value q.0 p.0 (one.any_two (ends q.0) (hands_on p.0) q.1 p.1))
    any o u (inr p) (inr q) =
        (next q.0 q.1).any_two o u
        (subst (λ (x : X). second x o) (same_value p.0 q.0 (one.any_two (hands_on p.0) (hands_on q.0) p.1 q.1)) p.2)
        q.2

-- so has what a call answers, where it has one answer beside want of memory
pub result_one : {X E : Type 0} (memory : E) (tell : E → Answer) (Answers : Result X E → Type 0)
    → ((answer : Result X E) × (answer ≢ Err memory) × Answers answer)
    → ((answer other : Result X E) → answer ≢ Err memory → other ≢ Err memory → Answers answer → Answers other → answer ≡ other)
    → HasOne (ResultStage memory tell Answers)
result_one {X = X} {E = E} memory tell Answers some two = record { some = some_of some.0 some.1 some.2; any_two = any }
  where
    some_of : (answer : Result X E) → answer ≢ Err memory → Answers answer
        → (outcome : Outcome X) × ResultStage memory tell Answers outcome
    some_of (Ok x) other p = (hands_on x, p)
    some_of (Err e) other p = (ends (tell e), (e, (λ is. other (ap Err is)), p, refl))

    err : (e : E) → e ≢ memory → failed X e ≢ Err memory
    err e other is = other cc

    ok : (x : X) → Ok x ≢ Err memory
    ok x is = cc

    any : (o u : Outcome X) → ResultStage memory tell Answers o → ResultStage memory tell Answers u → o ≡ u
    any (hands_on x) (hands_on y) p q =
        let same : Ok x ≡ Ok y = two (Ok x) (Ok y) (ok x) (ok y) p q in ap hands_on cc
    any (hands_on x) (ends b) p q =
        let same : Ok x ≡ Err q.0 = two (Ok x) (Err q.0) (ok x) (err q.0 q.1) p q.2 in absurd cc
    any (ends a) (hands_on y) p q =
        let same : Ok y ≡ Err p.0 = two (Ok y) (Err p.0) (ok y) (err p.0 p.1) q p.2 in absurd cc
    any (ends a) (ends b) p q =
        let same : Err p.0 ≡ Err q.0 = two (Err p.0) (Err q.0) (err p.0 p.1) (err q.0 q.1) p.2 q.2 in
        let equal : p.0 ≡ q.0 = cc in ap ends (p.3 ∙ (ap tell equal ∙ sym q.3))

-- what two stages hand on is handed on by the second, after a value of the first
pub then_handed : {X Y : Type 0} (first : Stage X) (second : X → Stage Y) (y : Y) → Then first second (hands_on y)
    → (x : X) × first (hands_on x) × second x (hands_on y)
then_handed first second y (inl p) = absurd (end_is_no_value p.0 y (sym p.2))
then_handed first second y (inr p) = p

-- where the first of two stages has one outcome, which is this value, the second goes on with it
pub goes_on : {X Y : Type 0} (first : Stage X) (second : X → Stage Y) → HasOne first → (x : X) → first (hands_on x)
    → (outcome : Outcome Y) → Then first second outcome → second x outcome
goes_on first second one x is o (inl p) =
    absurd (end_is_no_value p.0 x (one.any_two (ends p.0) (hands_on x) p.1 is))
goes_on {X = X} first second one x is o (inr p) =
    subst (λ (y : X). second y o) (same_value p.0 x (one.any_two (hands_on p.0) (hands_on x) p.1 is)) p.2

-- what is handed on unless there is a fault
pub handed : {X E : Type 0} (tell : E → Answer) (fault : Option E) (x y : X) → hands_on y ≡ unless tell fault x
    → (fault ≡ None) × (y ≡ x)
handed tell None x y is = (refl, same_value y x is)
handed tell (Some fault) x y is = absurd (end_is_no_value (tell fault) y (sym is))
