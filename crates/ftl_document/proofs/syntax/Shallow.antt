-- How many braces are open in the tokens of a document.
use Rattle.std.proofs.Common.{◌≡◌, ℕ, zero, suc, ◌+◌, ◌≤◌, Bool, true, false, cond, [], ◌∷◌, ◌++◌, ℤ, refl, sym, ap}
use Rattle.std.proofs.Common.{◌∙◌, subst, append_assoc, arith}
use Rattle.std.proofs.lemmas.List.Sums.{sum_by-cons}
use Rattle.ftl_tokens.specs.declared.scanner.kind.Kind.{Kind}
use Rattle.ftl_tokens.specs.declared.scanner.kind.Kind.TheVariants as kind
use Rattle.ftl_tokens.specs.scanner.Tokenized.{Symbol, name, number, fixed}
use Rattle.ftl_tokens.specs.reading.Reader.{Tokens, same_kind}
use Rattle.ftl_tokens.specs.reading.Depth.{IsShallow, count_of, is_among}
use Rattle.ftl_document.specs.syntax.Braces.{braces}
use Rattle.ftl_document.specs.syntax.Written.{NameText, WrittenFields, WrittenNode, WrittenNodes}
use Rattle.ftl_document.specs.syntax.Spelling.{SpellsFields, SpellsNode, SpellsNodes, SpellsNumber, list_and, negative}
use Rattle.ftl_document.specs.syntax.Spelling.{no_more, node_more, node_of, none, number_and, plain, single_and}
use Rattle.ftl_document.specs.syntax.Sizes.{levels_of, levels_of_fields, levels_of_list}

-- at each token at most so many are open
abbrev Low : ℕ → Tokens → Type 0
Low n ts = IsShallow braces n ts

no_tokens : (n : ℕ) → Low n []
no_tokens n = record { within = go }
  where
    go : (front rest : Tokens) → [] ≡ front ++ rest → count_of braces.opening front ≤ count_of braces.closing front + n
    go [] rest e = omega arith
    go (t ∷ front) rest e = absurd cc

counts : (t : Symbol) (front : Tokens) (opens closes : Bool)
    → is_among braces.opening t ≡ opens → is_among braces.closing t ≡ closes
    → (count_of braces.opening (t ∷ front) ≡ cond opens 1 0 + count_of braces.opening front)
    × (count_of braces.closing (t ∷ front) ≡ cond closes 1 0 + count_of braces.closing front)
counts t front opens closes o c = (
  sum_by-cons (λ u. cond (is_among braces.opening u) 1 0) t front ∙ ap {B = ℕ}
      (λ b. cond b 1 0 + count_of braces.opening front) o,
  sum_by-cons (λ u. cond (is_among braces.closing u) 1 0) t front ∙ ap {B = ℕ}
      (λ b. cond b 1 0 + count_of braces.closing front) c,
)

-- one token in front: m may be open behind it
before : (t : Symbol) (opens closes : Bool) (n m : ℕ) (ts : Tokens) → is_among braces.opening t ≡ opens
    → is_among braces.closing t ≡ closes → cond opens 1 0 + m ≤ cond closes 1 0 + n → Low m ts → Low n (t ∷ ts)
before t opens closes n m ts o c few low = record { within = go }
  where
    go : (front rest : Tokens) → t ∷ ts ≡ front ++ rest
        → count_of braces.opening front ≤ count_of braces.closing front + n
    go [] rest e = omega arith
    go (u ∷ front) rest e =
        let same : u ≡ t = cc in
        let behind : ts ≡ front ++ rest = cc in
        let seen = counts u front opens closes (ap (is_among braces.opening) same ∙ o)
        (ap (is_among braces.closing) same ∙ c) in
        let few_behind = low.within front rest behind in
        omega (arith, few, few_behind, seen.0, seen.1)

low_name : {n : ℕ} (x : NameText) (ts : Tokens) → Low n ts → Low n (name x ∷ ts)
unfolding same_kind
low_name {n} x ts low = before (name x) false false n n ts refl refl (omega arith) low

low_number : {n : ℕ} (x : ℕ) (ts : Tokens) → Low n ts → Low n (number x ∷ ts)
unfolding same_kind
low_number {n} x ts low = before (number x) false false n n ts refl refl (omega arith) low

low_open : {n : ℕ} (ts : Tokens) → Low n ts → Low (suc n) (fixed kind.LeftBrace ∷ ts)
unfolding same_kind
low_open {n} ts low = before (fixed kind.LeftBrace) true false (suc n) n ts refl refl (omega arith) low

low_close : {n : ℕ} (ts : Tokens) → Low (suc n) ts → Low n (fixed kind.RightBrace ∷ ts)
unfolding same_kind
low_close {n} ts low = before (fixed kind.RightBrace) false true n (suc n) ts refl refl (omega arith) low

-- the marks that open and close no brace
abbrev is_plain : Kind → Bool
is_plain kind.LeftBrace = false
is_plain kind.RightBrace = false
is_plain _ = true

low_plain : {n : ℕ} (k : Kind) (ts : Tokens) → is_plain k ≡ true → Low n ts → Low n (fixed k ∷ ts)
unfolding same_kind
low_plain kind.LeftBrace ts e low = cc
low_plain kind.RightBrace ts e low = cc
low_plain {n} k ts e low = before (fixed k) false false n n ts refl refl (omega arith) low

low_value : {n : ℕ} {a : Tokens} {z : ℤ} → SpellsNumber a z → (ts : Tokens) → Low n ts → Low n (a ++ ts)
low_value (plain {n = v}) ts low = low_number v ts low
low_value (negative {n = v}) ts low = low_plain kind.Minus (number v ∷ ts) refl (low_number v ts low)

low_named : {n : ℕ} (x : NameText) (ts : Tokens) → Low n ts → Low n (name x ∷ fixed kind.Equals ∷ ts)
low_named x ts low = low_name x (fixed kind.Equals ∷ ts) (low_plain kind.Equals ts refl low)

-- a class with braces, before others
low_braces : {levels : ℕ} (class : NameText) (a b rest : Tokens) (n : ℕ) → suc levels ≤ n
    → ((m : ℕ) → levels ≤ m → (more : Tokens) → Low m more → Low m (a ++ more)) → Low n (b ++ rest)
    → Low n ((name class ∷ fixed kind.LeftBrace ∷ (a ++ (fixed kind.RightBrace ∷ b))) ++ rest)
low_braces class a b rest zero few inside low = absurd (omega (arith, few))
low_braces class a b rest (suc n) few inside low =
    low_name class (fixed kind.LeftBrace ∷ ((a ++ (fixed kind.RightBrace ∷ b)) ++ rest))
    (low_open ((a ++ (fixed kind.RightBrace ∷ b)) ++ rest)
    (subst (Low n) (sym (append_assoc a (fixed kind.RightBrace ∷ b) rest))
    (inside n (omega (arith, few)) (fixed kind.RightBrace ∷ (b ++ rest)) (low_close (b ++ rest) low))))

mutual
  -- tokens of fields before others
  low_fields : {a : Tokens} {f : WrittenFields} → SpellsFields a f → (n : ℕ) → levels_of_fields f ≤ n → (rest : Tokens)
      → Low n rest → Low n (a ++ rest)
  low_fields no_more n few rest low = low
  low_fields (number_and {x = x} {a = a} {b = b} s t) n few rest low =
      low_named x ((a ++ b) ++ rest)
      (subst (Low n) (sym (append_assoc a b rest)) (low_value s (b ++ rest) (low_fields t n few rest low)))
  low_fields (single_and {x = x} {class = class} {a = a} {b = b} s t) n few rest low =
      low_named x ((name class ∷ fixed kind.LeftBrace ∷ (a ++ (fixed kind.RightBrace ∷ b))) ++ rest)
      (low_braces class a b rest n (omega (arith, few)) (λ m le more l. low_fields s m le more l)
      (low_fields t n (omega (arith, few)) rest low))
  low_fields (list_and {x = x} {a = a} {b = b} s t) n few rest low =
      low_named x (fixed kind.LeftBracket ∷ ((a ++ (fixed kind.RightBracket ∷ b)) ++ rest))
      (low_plain kind.LeftBracket ((a ++ (fixed kind.RightBracket ∷ b)) ++ rest) refl
      (subst (Low n) (sym (append_assoc a (fixed kind.RightBracket ∷ b) rest))
      (low_list s n (omega (arith, few)) (fixed kind.RightBracket ∷ (b ++ rest))
      (low_plain kind.RightBracket (b ++ rest) refl (low_fields t n (omega (arith, few)) rest low)))))

  low_list : {a : Tokens} {nodes : WrittenNodes} → SpellsNodes a nodes → (n : ℕ) → levels_of_list nodes ≤ n
      → (rest : Tokens) → Low n rest → Low n (a ++ rest)
  low_list none n few rest low = low
  low_list (node_more {class = class} {a = a} {b = b} s t) n few rest low =
      low_braces class a b rest n (omega (arith, few)) (λ m le more l. low_fields s m le more l)
      (low_list t n (omega (arith, few)) rest low)

pub low_document : (n : ℕ) (ts : Tokens) (node : WrittenNode) → SpellsNode ts node → levels_of node ≤ n → Low n ts
low_document zero ts node (node_of s) few = absurd (omega (arith, few))
low_document (suc n) ts node (node_of {class = class} {a = a} s) few =
    low_name class (fixed kind.LeftBrace ∷ (a ++ (fixed kind.RightBrace ∷ [])))
    (low_open (a ++ (fixed kind.RightBrace ∷ []))
    (low_fields s n (omega (arith, few)) (fixed kind.RightBrace ∷ []) (low_close [] (no_tokens (suc n)))))
