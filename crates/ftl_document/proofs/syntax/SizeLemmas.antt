-- How the sizes of a document are bounded by the tokens that spell it.
use Rattle.std.proofs.Common.{◌≡◌, ℕ, suc, ◌+◌, ◌≤◌, max, ℤ, Bool, true, false, cond, []}
use Rattle.std.proofs.Common.{◌∷◌, ◌++◌, refl, sym, ap, ◌∙◌, append_assoc, arith}
use Rattle.std.proofs.lemmas.List.Sums.{sum_by-cons, sum_by-append}
use Rattle.ftl_tokens.specs.declared.scanner.kind.Kind.{Kind}
use Rattle.ftl_tokens.specs.declared.scanner.kind.Kind.TheVariants as kind
use Rattle.ftl_tokens.specs.scanner.Tokenized.{Symbol, name, number, fixed}
use Rattle.ftl_tokens.specs.reading.Reader.{Tokens, same_kind}
use Rattle.ftl_tokens.specs.reading.Depth.{is_among, count_of}
use Rattle.ftl_document.specs.syntax.Braces.{braces}
use Rattle.ftl_document.specs.syntax.Written.{NameText, WrittenFields, WrittenNode, WrittenNodes}
use Rattle.ftl_document.specs.syntax.Spelling.{SpellsNumber, SpellsFields, SpellsNodes, SpellsNode, plain, negative}
use Rattle.ftl_document.specs.syntax.Spelling.{no_more, number_and, single_and, list_and, none, node_more, node_of}
use Rattle.ftl_document.specs.syntax.Sizes.{nodes_in_fields, nodes_in_list, node_count, levels_of_fields, levels_of_list}
use Rattle.ftl_document.specs.syntax.Sizes.{levels_of}
use Rattle.ftl_document.proofs.syntax.Heights.{height, height_plain, height_open, height_close, height_name}
use Rattle.ftl_document.proofs.syntax.Heights.{height_number}

-- ---- how many nodes

-- how many marks `{` there are
abbrev opened : Tokens → ℕ
opened ts = count_of braces.opening ts

opened-cons : (t : Symbol) (ts : Tokens) → opened (t ∷ ts) ≡ cond (is_among braces.opening t) 1 0 + opened ts
opened-cons t ts = sum_by-cons (λ u. cond (is_among braces.opening u) 1 0) t ts

opened-append : (a b : Tokens) → opened (a ++ b) ≡ opened a + opened b
opened-append a b = sum_by-append (λ u. cond (is_among braces.opening u) 1 0) a b

opened-name : (x : NameText) (ts : Tokens) → opened (name x ∷ ts) ≡ opened ts
unfolding same_kind
opened-name x ts = omega (arith, opened-cons (name x) ts)

opened-number : (n : ℕ) (ts : Tokens) → opened (number n ∷ ts) ≡ opened ts
unfolding same_kind
opened-number n ts = omega (arith, opened-cons (number n) ts)

opened-open : (ts : Tokens) → opened (fixed kind.LeftBrace ∷ ts) ≡ suc (opened ts)
unfolding same_kind
opened-open ts = omega (arith, opened-cons (fixed kind.LeftBrace) ts)

-- a kind that is not `{`
abbrev opens_none : Kind → Bool
opens_none kind.LeftBrace = false
opens_none _ = true

opened-plain : (k : Kind) (ts : Tokens) → opens_none k ≡ true → opened (fixed k ∷ ts) ≡ opened ts
unfolding same_kind
opened-plain kind.LeftBrace ts e = cc
opened-plain _ ts e = refl

opened-value : {a : Tokens} {n : ℤ} → SpellsNumber a n → opened a ≡ 0
unfolding same_kind
opened-value plain = refl
opened-value negative = refl

-- a class with braces: one more, and those between and behind
opened-braces : (a b : Tokens) → opened (fixed kind.LeftBrace ∷ (a ++ (fixed kind.RightBrace ∷ b))) ≡ suc (opened a + opened b)
opened-braces a b =
    omega (
      arith,
      opened-open (a ++ (fixed kind.RightBrace ∷ b)),
      opened-append a (fixed kind.RightBrace ∷ b),
      opened-plain kind.RightBrace b refl,
    )

-- behind a name and `=`
opened-named : (x : NameText) (ts : Tokens) → opened (name x ∷ fixed kind.Equals ∷ ts) ≡ opened ts
opened-named x ts = opened-name x (fixed kind.Equals ∷ ts) ∙ opened-plain kind.Equals ts refl

-- brackets
opened-brackets : (a b : Tokens) → opened (fixed kind.LeftBracket ∷ (a ++ (fixed kind.RightBracket ∷ b))) ≡ opened a + opened b
opened-brackets a b =
    opened-plain kind.LeftBracket (a ++ (fixed kind.RightBracket ∷ b)) refl
    ∙ opened-append a (fixed kind.RightBracket ∷ b)
    ∙ ap (λ k. opened a + k) (opened-plain kind.RightBracket b refl)

mutual
  -- each node has one mark `{`
  nodes-opened : {a : Tokens} {f : WrittenFields} → SpellsFields a f → nodes_in_fields f ≡ opened a
  nodes-opened no_more = refl
  nodes-opened (number_and {x = x} {a = a} {b = b} s t) =
      let later = nodes-opened t in
      omega (arith, later, opened-named x (a ++ b), opened-append a b, opened-value s)
  nodes-opened (single_and {x = x} {class = class} {a = a} {b = b} s t) =
      let inside = nodes-opened s in
      let later = nodes-opened t in
      let braced = fixed kind.LeftBrace ∷ (a ++ (fixed kind.RightBrace ∷ b)) in
      omega (arith, inside, later, opened-named x (name class ∷ braced), opened-name class braced, opened-braces a b)
  nodes-opened (list_and {x = x} {a = a} {b = b} s t) =
      let inside = list-opened s in
      let later = nodes-opened t in
      omega (arith, inside, later, opened-named x (fixed kind.LeftBracket ∷ (a ++ (fixed kind.RightBracket ∷ b))), opened-brackets a b)

  list-opened : {a : Tokens} {nodes : WrittenNodes} → SpellsNodes a nodes → nodes_in_list nodes ≡ opened a
  list-opened none = refl
  list-opened (node_more {class = class} {a = a} {b = b} s t) =
      let inside = nodes-opened s in
      let later = list-opened t in
      omega (arith, inside, later, opened-name class (fixed kind.LeftBrace ∷ (a ++ (fixed kind.RightBrace ∷ b))), opened-braces a b)

pub document-opened : {a : Tokens} {x : WrittenNode} → SpellsNode a x → node_count x ≡ opened a
unfolding same_kind
document-opened (node_of {class = class} {a = a} s) =
    let inside = nodes-opened s in
    omega (arith, inside, opened-name class (fixed kind.LeftBrace ∷ (a ++ (fixed kind.RightBrace ∷ []))), opened-braces a [])

-- ---- how many nodes in one another

-- these open so many in front of others, and no fewer than those
record Over (levels : ℕ) (a rest : Tokens) : Type 0 where
  high : levels ≤ height (a ++ rest)
  over : height rest ≤ height (a ++ rest)

number-over : {a : Tokens} {n : ℤ} → SpellsNumber a n → (rest : Tokens) → height rest ≡ height (a ++ rest)
number-over (plain {n = n}) rest = sym (height_number n rest)
number-over (negative {n = n}) rest =
    sym (height_plain kind.Minus (number n ∷ rest) refl ∙ height_number n rest)

height_named : (x : NameText) (ts : Tokens) → height (name x ∷ fixed kind.Equals ∷ ts) ≡ height ts
height_named x ts = height_name x (fixed kind.Equals ∷ ts) ∙ height_plain kind.Equals ts refl

-- a class with braces, before others
braces-over : {inside later : ℕ} (class : NameText) (a b rest : Tokens)
    → Over inside a (fixed kind.RightBrace ∷ (b ++ rest)) → Over later b rest
    → Over (max (suc inside) later) (name class ∷ fixed kind.LeftBrace ∷ (a ++ (fixed kind.RightBrace ∷ b))) rest
braces-over {inside} {later} class a b rest s t =
    let braced = fixed kind.LeftBrace ∷ ((a ++ (fixed kind.RightBrace ∷ b)) ++ rest) in
    let same : height ((a ++ (fixed kind.RightBrace ∷ b)) ++ rest) ≡ height (a ++ (fixed kind.RightBrace ∷ (b ++ rest))) =
    ap height (append_assoc a (fixed kind.RightBrace ∷ b) rest) in
    let whole : height (name class ∷ braced) ≡ suc (height (a ++ (fixed kind.RightBrace ∷ (b ++ rest)))) =
    height_name class braced ∙ height_open ((a ++ (fixed kind.RightBrace ∷ b)) ++ rest) ∙ ap suc same in
    record {
      high = omega (arith, whole, s.high, s.over, t.high, height_close (b ++ rest));
      over = omega (arith, whole, s.over, t.over, height_close (b ++ rest));
    }

mutual
  fields-over : {a : Tokens} {f : WrittenFields} → SpellsFields a f → (rest : Tokens) → Over (levels_of_fields f) a rest
  fields-over no_more rest = record { high = omega arith; over = omega arith }
  fields-over (number_and {x = x} {a = a} {b = b} s t) rest =
      let later = fields-over t rest in
      let whole : height (name x ∷ fixed kind.Equals ∷ ((a ++ b) ++ rest)) ≡ height (b ++ rest) =
      height_named x ((a ++ b) ++ rest) ∙ ap height (append_assoc a b rest) ∙ sym (number-over s (b ++ rest)) in
      record { high = omega (arith, whole, later.high); over = omega (arith, whole, later.over) }
  fields-over (single_and {x = x} {class = class} {a = a} {b = b} s t) rest =
      let node = braces-over class a b rest (fields-over s (fixed kind.RightBrace ∷ (b ++ rest))) (fields-over t rest) in
      let whole = height_named x ((name class ∷ fixed kind.LeftBrace ∷ (a ++ (fixed kind.RightBrace ∷ b))) ++ rest) in
      record { high = omega (arith, whole, node.high); over = omega (arith, whole, node.over) }
  fields-over (list_and {x = x} {a = a} {b = b} s t) rest =
      let behind = fixed kind.RightBracket ∷ (b ++ rest) in
      let inside = list-over s behind in
      let later = fields-over t rest in
      let list = (a ++ (fixed kind.RightBracket ∷ b)) ++ rest in
      let whole : height (name x ∷ fixed kind.Equals ∷ fixed kind.LeftBracket ∷ list) ≡ height (a ++ behind) =
      height_named x (fixed kind.LeftBracket ∷ list) ∙ height_plain kind.LeftBracket list refl
      ∙ ap height (append_assoc a (fixed kind.RightBracket ∷ b) rest) in
      let past = height_plain kind.RightBracket (b ++ rest) refl in
      record {
        high = omega (arith, whole, inside.high, inside.over, later.high, past);
        over = omega (arith, whole, inside.over, later.over, past);
      }

  list-over : {a : Tokens} {nodes : WrittenNodes} → SpellsNodes a nodes → (rest : Tokens) → Over (levels_of_list nodes) a rest
  list-over none rest = record { high = omega arith; over = omega arith }
  list-over (node_more {class = class} {a = a} {b = b} s t) rest =
      braces-over class a b rest (fields-over s (fixed kind.RightBrace ∷ (b ++ rest))) (list-over t rest)

pub document-levels : {a : Tokens} {x : WrittenNode} → SpellsNode a x → levels_of x ≤ height a
document-levels (node_of {class = class} {a = a} s) =
    let inside = fields-over s (fixed kind.RightBrace ∷ []) in
    let braced = fixed kind.LeftBrace ∷ (a ++ (fixed kind.RightBrace ∷ [])) in
    omega (arith, inside.high, height_name class braced, height_open (a ++ (fixed kind.RightBrace ∷ [])))
