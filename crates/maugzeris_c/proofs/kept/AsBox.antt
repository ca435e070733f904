-- A handle and its parts own what a box at the same types owns.
use Rattle.std.proofs.Common.{◌≡◌, refl, sym, subst, Option, Some, None, IsSome}
use lib.Dec.{T}
use mir.Syntax.{impl, tnil, dnil}
use mathlib.Core.List.{[]}
use denote.Signature.{Slot, plain}
use Rattle.std_alloc.proofs.BoxSteps.Form.{Bx}
use Rattle.std_heap.specs.contracts.Global as Heap
use Rattle.std_heap.specs.contracts.GlobalAllocator.TheImpl.{ghosts, dict}
use Rattle.std_heap.proofs.Global.TheLaws as heap
use Rattle.maugzeris_c.specs.contracts.context.entries.Context as Context
use Rattle.maugzeris_c.proofs.context.entries.Context.TheLaws as context
use Rattle.maugzeris_c.specs.contracts.kept.parts.Parts as Parts
use Rattle.maugzeris_c.specs.contracts.kept.handle.Handle as Handle

abbrev pub E : Bx
E = record { row = Context.the_row; laws = context.the_row_laws; al = record { row = Heap.the_row; laws = heap.the_row_laws; g = ghosts; d = dict; drops = impl [] tnil dnil } }

abbrev pub FromParts : Slot 0
FromParts = plain (λ _. Parts.the_row Context.the_row Heap.the_row ghosts)

abbrev pub FromHandle : Slot 0
FromHandle = plain (λ _. Handle.the_row)

abbrev pub FromHeap : Slot 0
FromHeap = plain (λ _. Heap.the_row)

pub some_of : {X : Type 0} (o : Option X) → IsSome o → (v : X) × (o ≡ Some v)
some_of (Some v) full = (v, refl)
some_of None full = absurd (subst T (sym full) tt)
