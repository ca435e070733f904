-- The text that says where a value comes from.
use Rattle.std.specs.Prelude.{◌≡◌, ℕ, zero, suc, Bool, true, false, List, [], ◌++◌, codes}
use Rattle.std.specs.Fmt.{decimal}
use Rattle.std.specs.List.{All, flat_map}
use Rattle.ftl_model.specs.layout.Values.{Value, number, overflow}
use Rattle.maugzeris.specs.pages.Instances.{IsInstanceOn, attribute_of, node_of, reads_on}
use Rattle.maugzeris.specs.pages.PageState.{PageState, value_on}
use Rattle.ftl_showing.specs.lines.Details.{instance_text, name_text, source_text}
use Rattle.ftl_showing.specs.lines.Lines.{indentation}
use Rattle.ftl_showing.specs.declared.lines.walk.Seen.{Seen}
use Rattle.ftl_showing.specs.declared.lines.walk.Seen.TheVariants.{Before, Beginning, First}
use Rattle.ftl_showing.specs.declared.lines.walk.Step.{Step}

-- whether a value is Overflow
abbrev pub is_overflow : Value → Bool
is_overflow (number n) = false
is_overflow overflow = true

-- whether that of an instance is
abbrev pub is_overflow_on : PageState → (instance : ℕ) → Bool
is_overflow_on p i = is_overflow (value_on p (node_of p i) (attribute_of p i))

-- none of these instances is Overflow
abbrev pub AreNumbersOn : PageState → List ℕ → Type 0
AreNumbersOn p instances = All (λ i. is_overflow_on p i ≡ false) instances

-- an instance of the page that is Overflow
pub record IsOverflowOn (p : PageState) (instance : ℕ) : Type 0 where
  pub known : IsInstanceOn p instance
  pub overflow : is_overflow_on p instance ≡ true

-- an instance that is Overflow, and that read none
pub record BeginsOverflow (p : PageState) (instance : ℕ) : Type 0 where
  pub is : IsOverflowOn p instance
  pub reads : AreNumbersOn p (reads_on p instance)

-- a step on an instance of the page, where an Overflow begins if the step says so
pub record IsStepOn (p : PageState) (x : Step) : Type 0 where
  pub known : IsInstanceOn p x.instance
  pub beginning : x.seen ≡ Beginning → BeginsOverflow p x.instance

-- what is said of an instance behind its value: that it stands above, or what computes it, and whether an Overflow
-- begins there
abbrev pub remark : PageState → (instance : ℕ) → Seen → List ℕ
remark p i Before = codes "above"
remark p i First = source_text p i
remark p i Beginning = source_text p i ++ codes "  overflow begins here"

-- the line of a step of the walk
abbrev pub why_line : PageState → Step → List ℕ
why_line p x =
    indentation x.depth ++ instance_text p x.instance ++ codes "  " ++ remark p x.instance x.seen ++ codes "\n"

-- ---- the whole text

-- how many steps are left out; nothing where none are
abbrev pub left_out_line : ℕ → List ℕ
left_out_line zero = []
left_out_line (suc n) = codes "... " ++ decimal (suc n) ++ codes " more\n"

-- where an Overflow begins
abbrev pub beginning_line : PageState → (instance : ℕ) → List ℕ
beginning_line p i = codes "overflow begins at " ++ name_text p i ++ codes "\n"

-- nothing, or the line of an instance at which an Overflow begins
pub data IsBeginningText (p : PageState) : List ℕ → Type 0 where
  none : IsBeginningText p []
  some : (instance : ℕ) → BeginsOverflow p instance → IsBeginningText p (beginning_line p instance)

-- the lines of steps on the page
pub record AreWhyLines (p : PageState) (text : List ℕ) : Type 0 where
  pub steps : List Step
  pub known : All (IsStepOn p) steps
  pub is : text ≡ flat_map (why_line p) steps

-- such lines were appended
pub record AppendsWhyLines (p : PageState) (old new : List ℕ) : Type 0 where
  pub lines : List ℕ
  pub are : AreWhyLines p lines
  pub is : new ≡ old ++ lines

-- where an Overflow begins was appended, or nothing
pub record AppendsBeginning (p : PageState) (old new : List ℕ) : Type 0 where
  pub text : List ℕ
  pub beginning : IsBeginningText p text
  pub is : new ≡ old ++ text

-- the lines of steps, how many more there are, and where an Overflow begins
pub record IsWhyText (p : PageState) (text : List ℕ) : Type 0 where
  pub lines : List ℕ
  pub are : AreWhyLines p lines
  pub left_out : ℕ
  pub end : List ℕ
  pub beginning : IsBeginningText p end
  pub is : text ≡ (lines ++ left_out_line left_out) ++ end
