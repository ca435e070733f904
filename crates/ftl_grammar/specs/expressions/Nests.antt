-- Function values that read what stands between brackets, to a depth.
use Rattle.std.specs.Prelude.{ℕ, Result}
use Rattle.std.specs.Fn.{Shared}
use Rattle.std.specs.declared.alloc.Global.{Global}
use denote.Ref.{MutBor}
use Rattle.ftl_tokens.specs.declared.reading.fault.ReadFault.{ReadFault}
use Rattle.ftl_tokens.specs.reading.Reader.{Tokens, Reader, Reads}
use Rattle.ftl_grammar.specs.declared.syntax.expression.Expr.{Expr}
use Rattle.ftl_grammar.specs.declared.syntax.expression.Cond.{Cond}
use Rattle.ftl_grammar.specs.syntax.ExpressionReading.{expr, cond}
use Rattle.ftl_grammar.specs.declared.expressions.nested.Nested.{Nested}

-- what is known of the calls of a value that takes the allocator, the tokens and a depth
abbrev pub Calls : Type 0 → Type 0 → Type 1
Calls F A = Shared F (Global × (MutBor Tokens × (ℕ × Unit {0}))) (Result A ReadFault × (MutBor Tokens × Unit {0}))

-- it can always be called at this depth, and reads as the reader does
pub record ReadsAt {F A : Type 0} (calls : Calls F A) (f : F) (depth : ℕ) (reader : Reader A) : Type 0 where
  pub callable : (alloc : Global) (old : MutBor Tokens) → calls.pre f (alloc, (old, (depth, tt)))
  pub reads : (alloc : Global) (old new : MutBor Tokens) (r : Result A ReadFault)
      → calls.post f (alloc, (old, (depth, tt))) (r, (new, tt)) → Reads (reader old.now) r new.now

-- expressions and conditions between brackets are read to the depth that is left
pub record IsNested {E C : Type 0} (exprs : Calls E Expr) (conds : Calls C Cond) (n : Nested E C) : Type 0 where
  pub expr_reads : ReadsAt exprs n.expr n.depth (expr n.depth)
  pub cond_reads : ReadsAt conds n.cond n.depth (cond n.depth)
