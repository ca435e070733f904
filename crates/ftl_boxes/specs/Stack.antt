-- The grammar `stack`: boxes below each other.
use Rattle.std.specs.Prelude.{ℕ, List, [], ◌∷◌, codes}
use Rattle.ftl_boxes.specs.Lines.{text_of_lines}

-- boxes below each other
unfoldable pub stack_text : List ℕ
stack_text =
    text_of_lines
    (codes "root Page;"
    ∷ codes "interface Page { syn h; show h; }"
    ∷ codes "interface Box { inh x, y; syn w, h; show x, y, w, h; }"
    ∷ codes "class Sheet : Page { body : Box;"
    ∷ codes "  self.h := body.h;"
    ∷ codes "  body.x := 0;"
    ∷ codes "  body.y := 0;"
    ∷ codes "}"
    ∷ codes "class Column : Box { kids : [Box];"
    ∷ codes "  self.w := fold kids from 0 with max(acc, this.w);"
    ∷ codes "  self.h := fold kids from 0 with acc + this.h;"
    ∷ codes "  kids.x := self.x;"
    ∷ codes "  kids.y := first self.y then prev.y + prev.h;"
    ∷ codes "}"
    ∷ codes "class Word : Box { input iw, ih;"
    ∷ codes "  self.w := self.iw;"
    ∷ codes "  self.h := self.ih;"
    ∷ codes "}"
    ∷ [])
