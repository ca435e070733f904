-- What is left of a file, line by line.
use Rattle.std.proofs.Common.{◌≡◌, ℕ, ◌+◌, ◌-◌, ◌≤◌, List, [], ◌∷◌, ◌++◌, length, drop}
use Rattle.std.proofs.Common.{sym, ap, ◌∙◌, append_assoc, append-nil, length-append, arith}
use Rattle.std.specs.List.{concat}
use Rattle.std.proofs.lemmas.List.Folds.{concat-append}
use Rattle.std.proofs.Math.Seq.{drop-append_seam}
use Rattle.std.proofs.lemmas.List.{drop-drop}
use Rattle.ftl_page.specs.sections.Lines.{lines_of}
use Rattle.ftl_refusals.specs.places.Sections.{IsSectionAt}

-- a line more is as many bytes more
length-concat-line : (lines : List (List ℕ)) (line : List ℕ)
    → length (concat (lines ++ line ∷ [])) ≡ length (concat lines) + length line
length-concat-line lines line =
    ap length (concat-append lines (line ∷ []))
    ∙ length-append (concat lines) (line ++ [])
    ∙ ap (λ l. length (concat lines) + length l) (append-nil line)

-- the rest begins where a line of the file begins
pub record IsRest (file rest : List ℕ) : Type 0 where
  pub lines : List (List ℕ)
  pub all_lines : lines_of file ≡ lines ++ lines_of rest
  pub bytes_before : length file ≡ length (concat lines) + length rest
  pub rest_is : rest ≡ drop (length file - length rest) file

-- behind one more line too
pub next_rest : (file rest line after : List ℕ) → IsRest file rest → lines_of rest ≡ line ∷ lines_of after
    → rest ≡ line ++ after → IsRest file after
next_rest file rest line after inv first whole =
    let long = ap length whole ∙ length-append line after in
    let bytes = length-concat-line inv.lines line in
    let behind : length file - length rest + length line ≡ length file - length after =
    omega (arith, long, inv.bytes_before) in
    record {
      lines = inv.lines ++ line ∷ [];
      all_lines =
          inv.all_lines ∙ ap (λ ls. inv.lines ++ ls) first ∙ sym (append_assoc inv.lines (line ∷ []) (lines_of after));
      bytes_before = omega (arith, long, bytes, inv.bytes_before);
      rest_is =
          sym (drop-append_seam line after)
          ∙ ap (drop (length line)) (sym whole ∙ inv.rest_is)
          ∙ drop-drop (length line) (length file - length rest) file
          ∙ ap (λ n. drop n file) behind;
    }

-- a line that begins with the word, above the text, is the heading of a section
pub section_found : (file rest line after word text : List ℕ) → IsRest file rest → lines_of rest ≡ line ∷ lines_of after
    → rest ≡ line ++ after → line ≡ word ++ drop (length word) line → after ≡ text ++ drop (length text) after
    → IsSectionAt file word text (length file - length after)
section_found file rest line after word text inv first whole named below =
    let long = ap length whole ∙ length-append line after in
    let heading : length line ≡ length (word ++ drop (length word) line) = ap length named in
    record {
      lines = inv.lines;
      more = drop (length word) line;
      rest = drop (length text) after;
      heading =
          inv.all_lines
          ∙ ap (λ ls. inv.lines ++ ls)
          (first ∙ ap (λ l. l ∷ lines_of after) named ∙ ap (λ a. (word ++ drop (length word) line) ∷ lines_of a) below);
      start_is = omega (arith, long, heading, inv.bytes_before);
      text_is = sym (next_rest file rest line after inv first whole).rest_is ∙ below;
    }
