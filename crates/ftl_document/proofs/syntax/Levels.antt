-- How many nodes stand in one another in what is read to a depth.
use Rattle.std.proofs.Common.{◌≡◌, ℕ, zero, suc, ◌<◌, ◌≤◌, pos, neg_ℤ, length, Option, Some, None, Ok, Err, ap, arith}
use Rattle.ftl_tokens.specs.declared.scanner.kind.Kind.{Kind}
use Rattle.ftl_tokens.specs.declared.scanner.kind.Kind.TheVariants as kind
use Rattle.ftl_tokens.specs.reading.Reader.{Tokens, ReadResult, Reader, and_then, ◌>>=◌, pure, go_on, next_kind, skip, expect}
use Rattle.ftl_tokens.specs.reading.Reader.{take_name, take_number, at_end, chain}
use Rattle.ftl_document.specs.syntax.Written.{NameText, WrittenFields, WrittenNode, WrittenNodes, no_fields, number_field}
use Rattle.ftl_document.specs.syntax.Written.{node_field, list_field, no_nodes, node_and}
use Rattle.ftl_document.specs.syntax.Sizes.{levels_of, levels_of_fields, levels_of_list}
use Rattle.ftl_document.proofs.syntax.Reading.{append_fields, add_node, one_number, one_single}
use Rattle.ftl_document.proofs.syntax.Reading.{more, more_by, braced, node, list, value_by, value, field, fields_level}
use Rattle.ftl_document.proofs.syntax.Reading.{fields_to, document_to}

-- what is read has a property
abbrev OnRead : {A : Type 0} → (A → Type 0) → ReadResult A → Type 0
OnRead P (Ok p) = P p.0
OnRead P (Err rest) = Unit {0}

record Gives {A : Type 0} (P : A → Type 0) (p : Reader A) : Type 0 where
  gives : (ts : Tokens) → OnRead P (p ts)

-- whatever is read
anything : {A : Type 0} (p : Reader A) → Gives (λ x. Unit {0}) p
anything {A} p = record { gives = λ ts. by (p ts) }
  where
    by : (o : ReadResult A) → OnRead (λ x. Unit {0}) o
    by (Ok x) = tt
    by (Err rest) = tt

bind_gives : {A B : Type 0} {P : A → Type 0} {Q : B → Type 0} {p : Reader A} {f : A → Reader B} → Gives P p
    → ((x : A) → P x → Gives Q (f x)) → Gives Q (p >>= f)
bind_gives {A} {B} {P} {Q} {p} {f} told next = record { gives = λ ts. by (p ts) (told.gives ts) }
  where
    by : (o : ReadResult A) → OnRead P o → OnRead Q (and_then o f)
    by (Ok x) holds = (next x.0 holds).gives x.1
    by (Err rest) holds = tt

pure_gives : {A : Type 0} {P : A → Type 0} {x : A} → P x → Gives P (pure x)
pure_gives holds = record { gives = λ ts. holds }

-- where there is one
abbrev OnSome : {A : Type 0} → (A → Type 0) → Option A → Type 0
OnSome P (Some x) = P x
OnSome P None = Unit {0}

more_gives : {A : Type 0} {P : A → Type 0} {item : Reader A} → Gives P item → Gives (OnSome P) (more item)
unfolding more
more_gives {A} {P} {item} told = record { gives = λ ts. (by (next_kind ts)).gives ts }
  where
    by : (k : Option Kind) → Gives (OnSome P) (more_by item k)
    by (Some kind.Name) = bind_gives told (λ x holds. pure_gives holds)
    by _ = pure_gives tt

chain_gives : {A B : Type 0} {P : A → Type 0} {Q : B → Type 0} (add : B → A → B) {item : Reader (Option A)} (n : ℕ) (b : B)
    → Gives (OnSome P) item → ((c : B) (x : A) → Q c → P x → Q (add c x)) → Q b → Gives Q (chain add item n b)
unfolding chain
chain_gives add zero b told adds holds = pure_gives holds
chain_gives {A} {B} {P} {Q} add {item} (suc n) b told adds holds =
    bind_gives told (next (λ x is. chain_gives add n (add b x) told adds (adds b x holds is)))
  where
    next : ((x : A) → P x → Gives Q (chain add item n (add b x))) → (o : Option A) → OnSome P o
        → Gives Q (go_on b (λ x. chain add item n (add b x)) o)
    next again None none = pure_gives holds
    next again (Some x) is = again x is

-- ---- fields and nodes together

levels-append : (n : ℕ) (a b : WrittenFields) → levels_of_fields a < n → levels_of_fields b < n
    → levels_of_fields (append_fields a b) < n
levels-append n no_fields b low_a low_b = low_b
levels-append n (number_field x v later) b low_a low_b = levels-append n later b low_a low_b
levels-append n (node_field x class inside later) b low_a low_b =
    let more = levels-append n later b (omega (arith, low_a)) low_b in omega (arith, low_a, more)
levels-append n (list_field x nodes later) b low_a low_b =
    let more = levels-append n later b (omega (arith, low_a)) low_b in omega (arith, low_a, more)

levels-add : (n : ℕ) (a : WrittenNodes) (x : WrittenNode) → levels_of_list a < n → levels_of x < n
    → levels_of_list (add_node a x) < n
levels-add n no_nodes x low_a low_x = omega (arith, low_x)
levels-add n (node_and class inside later) x low_a low_x =
    let more = levels-add n later x (omega (arith, low_a)) low_x in omega (arith, low_a, more)

-- ---- the readers

module _ {depth : ℕ} {fields : Reader WrittenFields} (told : Gives (λ x. levels_of_fields x < depth) fields) where
  braced_low : Gives (λ x. levels_of_fields x < depth) (braced fields)
  unfolding braced
  braced_low =
      bind_gives (anything (expect kind.LeftBrace))
      (λ u holds. bind_gives told (λ x low. bind_gives (anything (expect kind.RightBrace)) (λ v is. pure_gives low)))

  node_low : Gives (λ x. levels_of x < suc depth) (node fields)
  unfolding node
  node_low = bind_gives (anything take_name) (λ class holds. bind_gives braced_low (λ x low. pure_gives (omega (arith, low))))

  single_low : (x : NameText) → Gives (λ f. levels_of_fields f < suc depth) (node fields >>= (λ n. pure (one_single x n)))
  single_low x = bind_gives node_low (λ n low. pure_gives (omega (arith, low)))

  list_low : (x : NameText) → Gives (λ f. levels_of_fields f < suc depth) (list fields x)
  unfolding list
  list_low x =
      bind_gives {P = λ nodes. levels_of_list nodes < suc depth}
      (record { gives = λ ts. (chain_gives add_node (length ts) no_nodes (more_gives node_low) (λ a n low_a low_n. levels-add (suc depth) a n low_a low_n) (omega arith)).gives ts })
      (λ nodes low. bind_gives (anything (expect kind.RightBracket)) (λ u holds. pure_gives (omega (arith, low))))

  value_low : (x : NameText) → Gives (λ f. levels_of_fields f < suc depth) (value fields x)
  unfolding value
  value_low x = record { gives = λ ts. (by (next_kind ts)).gives ts }
    where
      by : (k : Option Kind) → Gives (λ f. levels_of_fields f < suc depth) (value_by fields x k)
      by (Some kind.Number) = bind_gives (anything take_number) (λ n holds. pure_gives {x = one_number x (pos n)} (omega arith))
      by (Some kind.Minus) =
          bind_gives (anything skip) (λ u holds. bind_gives (anything take_number) (λ n is. pure_gives {x = one_number x (neg_ℤ (pos n))} (omega arith)))
      by (Some kind.LeftBracket) = bind_gives (anything skip) (λ u holds. list_low x)
      by _ = single_low x

  field_low : Gives (λ f. levels_of_fields f < suc depth) (field fields)
  unfolding field
  field_low =
      bind_gives (anything take_name) (λ x holds. bind_gives (anything (expect kind.Equals)) (λ u is. value_low x))

  level_low : Gives (λ f. levels_of_fields f < suc depth) (fields_level fields)
  unfolding fields_level
  level_low =
      record { gives = λ ts. (chain_gives append_fields (length ts) no_fields (more_gives field_low) (λ a b low_a low_b. levels-append (suc depth) a b low_a low_b) (omega arith)).gives ts }

fields_low : (depth : ℕ) → Gives (λ f. levels_of_fields f < depth) (fields_to depth)
unfolding fields_to
fields_low zero = record { gives = λ ts. tt }
fields_low (suc depth) = level_low (fields_low depth)

document_low : (depth : ℕ) → Gives (λ x. levels_of x < suc depth) (document_to depth)
unfolding document_to
document_low depth = bind_gives (node_low (fields_low depth)) (λ x low. bind_gives (anything at_end) (λ u holds. pure_gives low))

-- a document that is read to a depth has no more levels
pub document_levels : (depth : ℕ) (ts left : Tokens) (x : WrittenNode) → document_to depth ts ≡ Ok (x, left)
    → levels_of x ≤ depth
document_levels depth ts left x e = by (document_to depth ts) ((document_low depth).gives ts) e
  where
    by : (o : ReadResult WrittenNode) → OnRead (λ n. levels_of n < suc depth) o → o ≡ Ok (x, left) → levels_of x ≤ depth
    by (Ok p) low e = let same : p.0 ≡ x = cc in omega (arith, low, ap levels_of same)
    by (Err rest) low e = absurd (cc)
