-- The sections of a page, block by block.
use Rattle.std.proofs.Common.{◌≡◌, ℕ, zero, suc, ◌+◌, ◌<◌, Bool, true, List, [], ◌∷◌, ◌++◌, length, take, Option, Some}
use Rattle.std.proofs.Common.{None, is_some, Result, Ok, Err, sym, refl, ap, ◌∙◌, subst, ⊎_elim, arith, append_assoc}
use Rattle.std.specs.Prelude.{◌⊎◌}
use Rattle.std.specs.List.{list_all, prefix_len, take_while}
use Rattle.std.proofs.lemmas.Bool.{cond-true, cond-false, and_parts, not-true, not_from_true}
use Rattle.std.proofs.lemmas.List.{append-nil}
use Rattle.ftl_page.specs.declared.sections.fault.Section.{Section}
use Rattle.ftl_page.specs.declared.sections.fault.PageFault.{PageFault}
use Rattle.ftl_page.specs.declared.sections.section.Sections.{Sections}
use Rattle.ftl_page.specs.sections.Lines.{lines_of, words_of, is_heading, is_body_line}
use Rattle.ftl_page.proofs.sections.LineLength.{line_length}
use Rattle.ftl_page.specs.sections.Body.{IsBody}
use Rattle.ftl_page.specs.sections.Blocks.{Block, blocks_of, Content, content_of, section_of}
use Rattle.ftl_page.specs.sections.Page.{text_if, or_else, section_in, content_fault, first_of, first_fault}
use Rattle.ftl_page.specs.sections.Found.{found_in, AddGives, AreSectionsOf, SectionsGive}
use Rattle.ftl_page.proofs.sections.LineLemmas.{lines_of-first, lines_of-nil, line_length-some}
use Rattle.ftl_page.proofs.sections.BodyLemmas.{is_heading-front}

-- these lines are none, or a heading is the first of them
abbrev pub StartsBlock : List (List ℕ) → Type 0
StartsBlock [] = Unit {0}
StartsBlock (line ∷ lines) = is_heading line ≡ true

first_heading : (n b : ℕ) (bs : List ℕ) → 0 < n → is_heading (b ∷ bs) ≡ true → is_heading (take n (b ∷ bs)) ≡ true
first_heading zero b bs some heading = absurd (omega arith)
first_heading (suc n) b bs some heading = heading

pub starts_block : (text : List ℕ) → ((length text ≡ 0) ⊎ (is_heading text ≡ true)) → StartsBlock (lines_of text)
starts_block text next =
    ⊎_elim
    (λ none. subst StartsBlock (sym (lines_of-nil text none)) tt)
    (λ heading. starts_with_heading text heading)
    next where
      starts_with_heading : (text : List ℕ) → is_heading text ≡ true → StartsBlock (lines_of text)
      starts_with_heading [] heading = absurd (cc heading)
      starts_with_heading (b ∷ bs) heading =
          subst StartsBlock (sym (lines_of-first (b ∷ bs) (omega arith)))
          (first_heading (line_length (b ∷ bs)) b bs (line_length-some (b ∷ bs) (omega arith)) heading)

-- the lines up to the next heading
pub take_while-body : (front more : List (List ℕ)) → list_all is_body_line front ≡ true → StartsBlock more
    → take_while is_body_line (front ++ more) ≡ front
take_while-body [] [] plain starts = refl
take_while-body [] (line ∷ lines) plain starts =
    ap (λ n. take n (line ∷ lines))
    (cond-false (is_body_line line) (1 + prefix_len is_body_line lines) 0 (not_from_true (is_heading line) starts))
take_while-body (l ∷ ls) more plain starts =
    let parts = and_parts (is_body_line l) (list_all is_body_line ls) plain in
    let longer : prefix_len is_body_line (l ∷ (ls ++ more)) ≡ suc (prefix_len is_body_line (ls ++ more)) = omega
    (arith, cond-true (is_body_line l) (1 + prefix_len is_body_line (ls ++ more)) 0 parts.0) in
    ap (λ n. take n (l ∷ (ls ++ more))) longer ∙ ap (λ rest. l ∷ rest) (take_while-body ls more parts.1 starts)

-- lines without a heading begin no block
pub blocks_of-skip : (front more : List (List ℕ)) (number : ℕ) → list_all is_body_line front ≡ true
    → blocks_of number (front ++ more) ≡ blocks_of (number + length front) more
unfolding blocks_of
blocks_of-skip [] more number plain = ap (λ n. blocks_of n more) (omega arith)
blocks_of-skip (l ∷ ls) more number plain =
    let parts = and_parts (is_body_line l) (list_all is_body_line ls) plain in
    cond-false _ _ _ (not-true (is_heading l) parts.0)
    ∙ blocks_of-skip ls more (number + 1) parts.1
    ∙ ap (λ n. blocks_of n more) (omega arith)

-- the first block of a text that begins with a heading
pub block_is : (number lines : ℕ) (text heading after front rest : List ℕ) → is_heading text ≡ true → 0 < length heading
    → text ≡ heading ++ after → lines_of text ≡ heading ∷ lines_of after → IsBody after front lines rest
    → blocks_of number (lines_of text) ≡ record { number = number; heading = heading; body = lines_of front } ∷
    blocks_of
    (number + (1 + lines)) (lines_of rest)
unfolding blocks_of
block_is number lines text heading after front rest starts some whole split body =
    let is_head : is_heading heading ≡ true = sym (is_heading-front heading after some) ∙ ap is_heading (sym whole)
    ∙ starts in
    let next = starts_block rest body.next in
    let body_is : take_while is_body_line (lines_of after) ≡ lines_of front = ap
    (take_while is_body_line) body.all_lines
    ∙ take_while-body (lines_of front) (lines_of rest) body.no_heading next in
    let others = ap (blocks_of (number + 1)) body.all_lines
    ∙ blocks_of-skip (lines_of front) (lines_of rest) (number + 1) body.no_heading in
    let place : number + 1 + length (lines_of front) ≡ number + (1 + lines) = omega (arith, body.count) in
    ap (blocks_of number) split
    ∙ cond-true _ _ _ is_head
    ∙ ap (λ ls. record { number = number; heading = heading; body = ls } ∷ blocks_of (number + 1)
    (lines_of after)) body_is
    ∙ ap (λ bs. record { number = number; heading = heading; body = lines_of front } ∷ bs)
    (others ∙ ap (λ n. blocks_of n (lines_of rest)) place)

-- ---- what was found

content_fault_same : (p q : Section → Bool) → ((s : Section) → p s ≡ q s)
    → (content : Option Content) (number : ℕ) (body : List (List ℕ))
    → content_fault p content number body ≡ content_fault q content number body
content_fault_same p q same None number body = refl
content_fault_same p q same (Some content) number body =
    ap (λ before. content_fault (λ _. before) (Some content) number body) (same (section_of content))

or_else-None : (x : Option (Option (List ℕ))) → or_else x None ≡ x
or_else-None None = refl
or_else-None (Some text) = refl

or_else-or_else : (x y z : Option (Option (List ℕ))) → or_else (or_else x y) z ≡ or_else x (or_else y z)
or_else-or_else None y z = refl
or_else-or_else (Some text) y z = refl

section_in-push : (s : Section) (before : List Block) (block : Block)
    → section_in s (before ++ block ∷ []) ≡ or_else (section_in s before)
    (text_if s (content_of (words_of block.heading)) block.body)
unfolding section_in
section_in-push s [] block = or_else-None _
section_in-push s (b ∷ bs) block =
    ap (or_else (text_if s (content_of (words_of b.heading)) b.body)) (section_in-push s bs block)
    ∙ sym (or_else-or_else (text_if s (content_of (words_of b.heading)) b.body) (section_in s bs)
    (text_if s (content_of (words_of block.heading)) block.body))

-- a block without a fault may stand on either side
one_before : (result : Result Sections PageFault) (before : List Block) (block : Block) (others : List Block)
    → content_fault (λ s. is_some (section_in s before))
    (content_of (words_of block.heading)) block.number block.body ≡ None
    → AreSectionsOf result (before ++ block ∷ []) others → AreSectionsOf result before (block ∷ others)
unfolding first_fault
one_before (Ok new) before block others good are = (
  ap (λ f. first_of f (first_fault (before ++ block ∷ []) others)) good ∙ are.0,
  λ s. are.1 s
      ∙ ap (section_in s) (append_assoc before (block ∷ []) others),
)
one_before (Err fault) before block others good are = ap
    (λ f. first_of f (first_fault (before ++ block ∷ []) others)) good ∙ are

module _ (sections : Sections) (before : List Block)
    (found : (s : Section) → found_in s sections ≡ section_in s before) where
  block_fault : (number : ℕ) (heading : List ℕ) (body : List (List ℕ))
      → content_fault (λ s. is_some (section_in s before)) (content_of (words_of heading)) number body ≡ content_fault
      (λ s. is_some (found_in s sections)) (content_of (words_of heading)) number body
  block_fault number heading body =
      content_fault_same (λ s. is_some (section_in s before)) (λ s. is_some (found_in s sections))
      (λ s. ap is_some (sym (found s))) (content_of (words_of heading)) number body

  -- no block is left
  pub sections_all : AreSectionsOf (Ok sections) before []
  unfolding first_fault
  sections_all = (refl, λ s. found s ∙ ap (section_in s) (sym (append-nil before)))

  -- the next block is refused
  pub sections_fault : (fault : PageFault) (number : ℕ) (heading : List ℕ) (body : List (List ℕ)) (others : List Block)
      → AddGives (Err fault) sections (content_of (words_of heading)) number body
      → AreSectionsOf (Err fault) before (record { number = number; heading = heading; body = body } ∷ others)
  unfolding first_fault
  sections_fault fault number heading body others refused =
      ap (λ f. first_of f
      (first_fault (before ++ record { number = number; heading = heading; body = body } ∷ []) others))
      (block_fault number heading body ∙ refused)

  -- the next block is added, and then come the others
  pub sections_more : (next : Sections) (result : Result Sections PageFault) (number : ℕ) (heading : List ℕ)
      (body : List (List ℕ)) (others : List Block)
      → AddGives (Ok next) sections (content_of (words_of heading)) number body → SectionsGive result next others
      → AreSectionsOf result before (record { number = number; heading = heading; body = body } ∷ others)
  sections_more next result number heading body others added give =
      let block : Block = record { number = number; heading = heading; body = body } in
      let found_next : (s : Section) → found_in s next ≡ section_in s (before ++ block ∷ []) = λ s. added.1 s
      ∙ ap (λ x. or_else x (text_if s (content_of (words_of heading)) body)) (found s)
      ∙ sym (section_in-push s before block) in
      one_before result before block others (block_fault number heading body ∙ added.0)
      (give (before ++ block ∷ []) found_next)

pub blocks_of-nil : (number : ℕ) (text : List ℕ) → length text ≡ 0 → blocks_of number (lines_of text) ≡ []
unfolding blocks_of
blocks_of-nil number text none = ap (blocks_of number) (lines_of-nil text none)

pub heading_here : (text : List ℕ) → 0 < length text → ((length text ≡ 0) ⊎ (is_heading text ≡ true))
    → is_heading text ≡ true
heading_here text some next = ⊎_elim (λ none. absurd (omega arith)) (λ heading. heading) next
