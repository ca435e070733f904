-- Texts that say where values come from.
use Rattle.std.proofs.Common.{◌≡◌, ℕ, List, [], ◌∷◌, ◌++◌, flat_map, refl, sym, ap, ◌∙◌, append_assoc}
use Rattle.std.specs.Prelude.{codes, Result, Ok, Err, OnOk}
use Rattle.std.proofs.lemmas.List.{append-nil, flat_map_more}
use Rattle.std.proofs.lemmas.List.Elements.{All-nil, All-push}
use Rattle.maugzeris.specs.pages.PageState.{PageState}
use Rattle.ftl_showing.specs.declared.lines.walk.Step.{Step}
use Rattle.ftl_showing.specs.lines.Whys.{AppendsBeginning, AppendsWhyLines, BeginsOverflow, IsStepOn, IsWhyText}
use Rattle.ftl_showing.specs.lines.Whys.{beginning_line, left_out_line, none, some, why_line}

-- before the first step
pub no_lines : (p : PageState) (old : List ℕ) → AppendsWhyLines p old old
no_lines p old = record {
  lines = [];
  are = record { steps = []; known = All-nil (IsStepOn p); is = refl };
  is = sym (append-nil old);
}

-- the line of one step more
pub one_line : (p : PageState) (old new next : List ℕ) (x : Step) → AppendsWhyLines p old new
    → IsStepOn p x → next ≡ new ++ why_line p x → AppendsWhyLines p old next
one_line p old new next x so_far known is =
    let steps = so_far.are.steps in
    record {
      lines = so_far.lines ++ why_line p x;
      are = record {
        steps = steps ++ x ∷ [];
        known = All-push (IsStepOn p) steps x so_far.are.known known;
        is = ap (λ ls. ls ++ why_line p x) so_far.are.is ∙ flat_map_more (why_line p) [] steps x;
      };
      is = is ∙ ap (λ ls. ls ++ why_line p x) so_far.is ∙ append_assoc old so_far.lines (why_line p x);
    }

-- nothing is told of a number
pub no_beginning : (p : PageState) (old : List ℕ) → AppendsBeginning p old old
no_beginning p old = record { text = []; beginning = none; is = sym (append-nil old) }

-- where an Overflow begins
pub one_beginning : (p : PageState) (old new : List ℕ) (i : ℕ) → BeginsOverflow p i → new ≡ old ++ beginning_line p i
    → AppendsBeginning p old new
one_beginning p old new i here is = record { text = beginning_line p i; beginning = some i here; is = is }

pub appended_beginning : {T E : Type 0} (p : PageState) (old new : List ℕ) (i : ℕ) (r : Result T E) → BeginsOverflow p i
    → OnOk r (new ≡ old ++ beginning_line p i) → OnOk r (AppendsBeginning p old new)
appended_beginning p old new i (Ok u) here is = one_beginning p old new i here is
appended_beginning p old new i (Err e) here is = is

-- the whole text, part by part
pub whole_text : (p : PageState) (lines told out : List ℕ) (n : ℕ) → AppendsWhyLines p [] lines
    → told ≡ lines ++ left_out_line n → AppendsBeginning p told out → IsWhyText p out
whole_text p lines told out n are left end = record {
  lines = are.lines;
  are = are.are;
  left_out = n;
  end = end.text;
  beginning = end.beginning;
  is = end.is ∙ ap (λ t. t ++ end.text) (left ∙ ap (λ ls. ls ++ left_out_line n) are.is);
}
