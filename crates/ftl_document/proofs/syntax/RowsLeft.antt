-- The turns of the reader of rows: what was left of the open rows, where what is left behind a turn is known.
use Rattle.std.proofs.Common.{◌≡◌, ◌≢◌, ℕ, zero, suc, ◌+◌, ◌-◌, ◌<◌, ◌≤◌, List, [], ◌∷◌, ◌++◌, length, drop, Option, Some, None}
use Rattle.std.proofs.Common.{Result, Ok, Err, refl, sym, ap, ◌∙◌, subst, arith}
use Rattle.ftl_tokens.specs.declared.scanner.kind.Kind.{Kind}
use Rattle.ftl_tokens.specs.declared.scanner.kind.Kind.TheVariants as kind
use Rattle.ftl_tokens.specs.reading.Reader.{Tokens, ReadResult, Reader, and_then, ◌>>=◌, ◌>>◌, pure, next_kind, expect, push, take_name}
use Rattle.ftl_document.specs.declared.syntax.row.WrittenRow.TheVariants as rows
use Rattle.ftl_document.specs.declared.syntax.open_rows.Inside.{Inside}
use Rattle.ftl_document.specs.declared.syntax.open_rows.Inside.TheVariants.{Fields, Kids}
use Rattle.ftl_document.specs.declared.syntax.open_rows.OpenRow.{OpenRow}
use Rattle.ftl_document.specs.declared.syntax.open_rows.OpenRow.TheVariants as open_row
use Rattle.ftl_document.specs.syntax.Written.{NameText}
use Rattle.ftl_document.specs.syntax.RowReading.{Found, RowReader, below, braces, field, fields_to, kid, single, list}
use Rattle.ftl_document.specs.syntax.RowReading.{round_by, rounds, rounds_of}
use Rattle.ftl_document.specs.syntax.RowsLeft.{closed, innermost, inside_of, item_of, mark_of, rest_inside, resume}
use Rattle.ftl_document.proofs.syntax.RowTurns.{no_turn, no_turn_yet, turn}
use Rattle.ftl_document.proofs.syntax.Takes.{field_takes, kid_takes}

-- ---- rounds

-- an item takes a token
abbrev Takes : RowReader → Type 0
Takes item =
    (found : Found) (ts : Tokens) (more : Found) (left : Tokens) → item found ts ≡ Ok (more, left) → length left < length ts

-- any counts of rounds that are no fewer than the tokens give the same
enough : (item : RowReader) → Takes item → (n m : ℕ) (found : Found) (ts : Tokens) → length ts ≤ n → length ts ≤ m
    → rounds item n found ts ≡ rounds item m found ts
unfolding rounds next_kind
enough item takes zero zero found ts few less = refl
enough item takes zero (suc m) found [] few less = refl
enough item takes zero (suc m) found (t ∷ ts) few less = absurd (omega (arith, few))
enough item takes (suc n) zero found [] few less = refl
enough item takes (suc n) zero found (t ∷ ts) few less = absurd (omega (arith, less))
enough item takes (suc n) (suc m) found ts few less =
    by (next_kind ts) (λ more us fewer. enough item takes n m more us (omega (arith, fewer, few)) (omega (arith, fewer, less)))
  where
    one : (o : ReadResult Found) → item found ts ≡ o
        → ((more : Found) (us : Tokens) → length us < length ts → rounds item n more us ≡ rounds item m more us)
        → and_then o (λ more. rounds item n more) ≡ and_then o (λ more. rounds item m more)
    one (Ok p) e again = again p.0 p.1 (takes found ts p.0 p.1 e)
    one (Err rest) e again = refl

    by : (k : Option Kind)
        → ((more : Found) (us : Tokens) → length us < length ts → rounds item n more us ≡ rounds item m more us)
        → round_by (item found) (λ more. rounds item n more) found k ts
        ≡ round_by (item found) (λ more. rounds item m more) found k ts
    by (Some kind.Name) again = one (item found ts) refl again
    by _ again = refl

-- where a name comes next, an item, and then again
one_round : (item : RowReader) → Takes item → (found : Found) (ts : Tokens) → next_kind ts ≡ Some kind.Name
    → rounds_of item found ts ≡ and_then (item found ts) (λ more. rounds_of item more)
one_round item takes found ts comes =
    let none = no_turn_yet item found ts in
    turn item found ts found ts none comes ∙ by (none.turns - 1) (omega (arith, none.enough)) (item found ts) refl
  where
    by : (n : ℕ) → length ts - 1 ≤ n → (o : ReadResult Found) → item found ts ≡ o
        → and_then o (λ more. rounds item n more) ≡ and_then o (λ more. rounds_of item more)
    by n few (Ok p) e =
        let fewer : length p.1 < length ts = takes found ts p.0 p.1 e in
        enough item takes n (length p.1) p.0 p.1 (omega (arith, fewer, few)) (omega arith)
    by n few (Err rest) e = refl

item_takes : (i : Inside) → Takes (item_of i)
item_takes (Fields depth) = field_takes depth
item_takes (Kids depth) = kid_takes depth

-- ---- the innermost open row

-- an item of it comes
next_item : (i : Inside) (o : OpenRow) (os : List OpenRow) (found : Found) (ts : Tokens) → next_kind ts ≡ Some kind.Name
    → and_then (rest_inside i o found ts) (resume os)
    ≡ and_then (item_of i found ts) (λ more. λ us. and_then (rest_inside i o more us) (resume os))
next_item i o os found ts comes =
    ap (λ r. and_then (and_then r (λ inside. expect (mark_of i) >> pure (closed o inside))) (resume os))
    (one_round (item_of i) (item_takes i) found ts comes)
    ∙ by (item_of i found ts)
  where
    by : (r : ReadResult Found)
        → and_then (and_then (and_then r (λ more. rounds_of (item_of i) more))
        (λ inside. expect (mark_of i) >> pure (closed o inside))) (resume os)
        ≡ and_then r (λ more. λ us. and_then (rest_inside i o more us) (resume os))
    by (Ok p) = refl
    by (Err rest) = refl

pub item_left : (i : Inside) (l : List OpenRow) (found : Found) (ts : Tokens) → innermost l ≡ Some i
    → next_kind ts ≡ Some kind.Name → resume l found ts ≡ and_then (item_of i found ts) (resume l)
unfolding resume
item_left i [] found ts is comes = absurd (cc)
item_left i (o ∷ os) found ts is comes =
    let same : inside_of o ≡ i = cc in
    subst (λ j. and_then (rest_inside (inside_of o) o found ts) (resume os)
    ≡ and_then (item_of j found ts) (λ more. λ us. and_then (rest_inside (inside_of o) o more us) (resume os))) same
    (next_item (inside_of o) o os found ts comes)

-- what is left behind the innermost one
pub behind : List OpenRow → RowReader
behind [] found = pure found
behind (o ∷ os) found = resume os (closed o found)

-- no more item of it comes
pub end_left : (i : Inside) (l : List OpenRow) (m : Kind) (found : Found) (ts : Tokens) → innermost l ≡ Some i
    → m ≡ mark_of i → next_kind ts ≢ Some kind.Name → resume l found ts ≡ and_then (expect m ts) (λ u. behind l found)
unfolding resume behind
end_left i [] m found ts is ends other = absurd (cc)
end_left i (o ∷ os) m found ts is ends other =
    let same : inside_of o ≡ i = cc in
    ap (λ r. and_then (and_then r (λ inside. expect (mark_of (inside_of o)) >> pure (closed o inside))) (resume os))
    (no_turn (item_of (inside_of o)) found ts found ts (no_turn_yet (item_of (inside_of o)) found ts) other)
    ∙ by (expect (mark_of (inside_of o)) ts)
    ∙ ap (λ k. and_then (expect k ts) (λ u. resume os (closed o found))) (ap mark_of same ∙ sym ends)
  where
    by : (r : ReadResult (Unit {0}))
        → and_then (and_then r (λ u. pure (closed o found))) (resume os) ≡ and_then r (λ u. resume os (closed o found))
    by (Ok p) = refl
    by (Err rest) = refl

pub some_open : (i : Inside) (l : List OpenRow) → l ≡ [] → innermost l ≡ Some i → ⊥
some_open i [] none is = cc
some_open i (o ∷ os) none is = cc

-- it ends here
pub end_taken : (l os : List OpenRow) (o : OpenRow) (found more : Found) (us : Tokens) → l ≡ o ∷ os → more ≡ closed o found
    → behind l found us ≡ resume os more us
unfolding behind
end_taken l os o found more us is sets = ap (λ k. behind k found us) is ∙ ap (λ r. resume os r us) (sym sets)

-- no row is open
pub nothing_left : (l : List OpenRow) (found : Found) (ts : Tokens) → innermost l ≡ None → resume l found ts ≡ Ok (found, ts)
unfolding resume
nothing_left [] found ts is = refl
nothing_left (o ∷ os) found ts is = absurd (cc)

-- ---- a row that is opened

-- fields in braces from the first field on, and a row that is set behind them
fields_opened : (depth : ℕ) (found : Found) (place : Found → Found) (os : List OpenRow) (ts us : Tokens)
    → 0 < depth → expect kind.LeftBrace ts ≡ Ok (tt, us)
    → and_then (and_then (braces (fields_to depth) found ts) (λ inside. pure (place inside))) (resume os)
    ≡ and_then (and_then (rounds_of (field (fields_to (depth - 1))) found us)
    (λ inside. expect kind.RightBrace >> pure (place inside))) (resume os)
unfolding braces fields_to
fields_opened zero found place os ts us some opens = absurd (omega (arith, some))
fields_opened (suc d) found place os ts us some opens =
    let one : d ≡ suc d - 1 = omega arith in
    ap (λ r. and_then (and_then (and_then r (λ _. fields_to (suc d) found >>= (λ inside. expect kind.RightBrace >> pure inside)))
    (λ inside. pure (place inside))) (resume os)) opens
    ∙ by (rounds_of (field (fields_to d)) found us)
    ∙ ap (λ e. and_then (and_then (rounds_of (field (fields_to e)) found us)
    (λ inside. expect kind.RightBrace >> pure (place inside))) (resume os)) one
  where
    last : (inside : Found) (o : ReadResult (Unit {0}))
        → and_then (and_then (and_then o (λ _. pure inside)) (λ inside. pure (place inside))) (resume os)
        ≡ and_then (and_then o (λ _. pure (place inside))) (resume os)
    last inside (Ok p) = refl
    last inside (Err rest) = refl

    by : (r : ReadResult Found)
        → and_then (and_then (and_then r (λ inside. expect kind.RightBrace >> pure inside)) (λ inside. pure (place inside)))
        (resume os)
        ≡ and_then (and_then r (λ inside. expect kind.RightBrace >> pure (place inside))) (resume os)
    by (Ok p) = last p.0 (expect kind.RightBrace p.1)
    by (Err rest) = refl

-- a node in a list
pub kid_opened : (depth : ℕ) (class : NameText) (found : Found) (os : List OpenRow) (ts us vs : Tokens) → 0 < depth
    → take_name ts ≡ Ok (class, us) → expect kind.LeftBrace us ≡ Ok (tt, vs)
    → and_then (kid (fields_to depth) found ts) (resume os)
    ≡ resume (open_row.Kid class (length found) (depth - 1) ∷ os) (push found (rows.Kid class 0)) vs
unfolding kid resume
kid_opened depth class found os ts us vs some named opens =
    ap (λ r. and_then (and_then r (λ class. braces (fields_to depth) (push found (rows.Kid class 0))
    >>= (λ inside. pure (closed (open_row.Kid class (length found) (depth - 1)) inside)))) (resume os)) named
    ∙ fields_opened depth (push found (rows.Kid class 0)) (closed (open_row.Kid class (length found) (depth - 1))) os us vs some
    opens

-- a field that is a node
pub single_opened : (depth : ℕ) (x class : NameText) (found : Found) (os : List OpenRow) (ts us vs : Tokens) → 0 < depth
    → take_name ts ≡ Ok (class, us) → expect kind.LeftBrace us ≡ Ok (tt, vs)
    → and_then (single (fields_to depth) x found ts) (resume os)
    ≡ resume (open_row.Single x class (length found) (depth - 1) ∷ os) (push found (rows.Single x class 0)) vs
unfolding single resume
single_opened depth x class found os ts us vs some named opens =
    ap (λ r. and_then (and_then r (λ class. braces (fields_to depth) (push found (rows.Single x class 0))
    >>= (λ inside. pure (closed (open_row.Single x class (length found) (depth - 1)) inside)))) (resume os)) named
    ∙ fields_opened depth (push found (rows.Single x class 0)) (closed (open_row.Single x class (length found) (depth - 1))) os us
    vs some opens

-- no more braces may stand in one another
too_deep : (found : Found) (ts us : Tokens) → expect kind.LeftBrace ts ≡ Ok (tt, us)
    → braces (fields_to 0) found ts ≡ Err us
unfolding braces fields_to
too_deep found ts us opens =
    ap (λ r. and_then r (λ _. fields_to 0 found >>= (λ inside. expect kind.RightBrace >> pure inside))) opens

pub kid_too_deep : (depth : ℕ) (class : NameText) (found : Found) (os : List OpenRow) (ts us vs : Tokens) → depth ≡ 0
    → take_name ts ≡ Ok (class, us) → expect kind.LeftBrace us ≡ Ok (tt, vs)
    → and_then (kid (fields_to depth) found ts) (resume os) ≡ Err vs
unfolding kid
kid_too_deep depth class found os ts us vs none named opens =
    let set_at = λ (c : NameText) (inside : Found). closed (open_row.Kid c (length found) 0) inside in
    ap (λ d. and_then (kid (fields_to d) found ts) (resume os)) none
    ∙ ap (λ r. and_then (and_then r (λ c. braces (fields_to 0) (push found (rows.Kid c 0)) >>= (λ inside. pure (set_at c inside))))
    (resume os)) named
    ∙ ap (λ r. and_then (and_then r (λ inside. pure (set_at class inside))) (resume os))
    (too_deep (push found (rows.Kid class 0)) us vs opens)

pub single_too_deep : (depth : ℕ) (x class : NameText) (found : Found) (os : List OpenRow) (ts us vs : Tokens) → depth ≡ 0
    → take_name ts ≡ Ok (class, us) → expect kind.LeftBrace us ≡ Ok (tt, vs)
    → and_then (single (fields_to depth) x found ts) (resume os) ≡ Err vs
unfolding single
single_too_deep depth x class found os ts us vs none named opens =
    let set_at = λ (c : NameText) (inside : Found). closed (open_row.Single x c (length found) 0) inside in
    ap (λ d. and_then (single (fields_to d) x found ts) (resume os)) none
    ∙ ap (λ r. and_then (and_then r (λ c. braces (fields_to 0) (push found (rows.Single x c 0))
    >>= (λ inside. pure (set_at c inside)))) (resume os)) named
    ∙ ap (λ r. and_then (and_then r (λ inside. pure (set_at class inside))) (resume os))
    (too_deep (push found (rows.Single x class 0)) us vs opens)

-- a field that is a list
pub list_opened : (depth : ℕ) (x : NameText) (found : Found) (os : List OpenRow) (ts : Tokens)
    → and_then (list (fields_to depth) x found ts) (resume os)
    ≡ resume (open_row.List x (length found) depth ∷ os) (push found (rows.List x 0)) ts
unfolding list resume
list_opened depth x found os ts = refl

-- the document's node
pub root_opened : (l : List OpenRow) (found : Found) (ts us : Tokens) → l ≡ open_row.Root 511 ∷ []
    → expect kind.LeftBrace ts ≡ Ok (tt, us) → braces (fields_to 512) found ts ≡ resume l found us
unfolding resume
root_opened l found ts us is opens =
    sym (same (braces (fields_to 512) found ts))
    ∙ fields_opened 512 found (λ inside. inside) [] ts us (omega arith) opens
    ∙ ap (λ k. resume k found us) (sym is)
  where
    same : (r : ReadResult Found) → and_then (and_then r (λ inside. pure inside)) (resume []) ≡ r
    same (Ok p) = refl
    same (Err rest) = refl
