-- The page of a sample: pieces in groups of eight, a line for each group.
use Rattle.std.specs.Prelude.{ℕ, ◌+◌, ◌-◌, ◌*◌, ◌/◌, ◌%◌, min, Bool, ◌==◌, nat_lt, List, ◌++◌, codes, if◌then◌else◌}
use Rattle.std.specs.List.{flat_map, range_with_len}
use Rattle.std.specs.Int.{div_ceil}
use Rattle.std.specs.Fmt.{decimal}
use Rattle.ftl_boxes.specs.declared.grammar.Grammar.{Grammar}
use Rattle.ftl_boxes.specs.declared.grammar.Grammar.TheVariants.{Stack, Block, Inline, Float, Table, Flow}
use Rattle.ftl_boxes.specs.Shipped.{name_of}
use Rattle.ftl_boxes.specs.Numbers.{piece_width, piece_height}

-- a piece of this class, width and height, and the space after it
abbrev pub box_text : List ℕ → ℕ → ℕ → List ℕ
box_text class w h = class ++ codes " { iw = " ++ decimal w ++ codes " ih = " ++ decimal h ++ codes " } "

-- a strip of this height, and the space after it
abbrev pub strip_text : ℕ → List ℕ
strip_text h = codes "Strip { ih = " ++ decimal h ++ codes " } "

-- whether a group of `flow` is a grid: each fourth one is
abbrev pub is_grid : ℕ → Bool
is_grid j = j % 4 == 3

-- piece i of this width and height
abbrev pub piece_of : Grammar → ℕ → ℕ → ℕ → List ℕ
piece_of Stack i w h = box_text (codes "Word") w h
piece_of Block i w h = box_text (codes "Word") w h
piece_of Inline i w h = box_text (codes "Word") w h
piece_of Float i w h =
    if i % 8 == 0 then box_text (codes "FloatLeft") w h
    else if i % 8 == 4 then box_text (codes "FloatRight") w h
    else strip_text h
piece_of Table i w h = box_text (codes "Cell") w h
piece_of Flow i w h = if is_grid (i / 8) then box_text (codes "Cell") w h else box_text (codes "Word") w h

-- piece i of n
abbrev pub piece_text : Grammar → ℕ → ℕ → List ℕ
piece_text g n i = piece_of g i (piece_width n i) (piece_height n i)

-- the pieces from the first number to below the second, each with the space after it
abbrev pub pieces_text : Grammar → ℕ → ℕ → ℕ → List ℕ
pieces_text g n a b = flat_map (piece_text g n) (range_with_len a (b - a))

-- a row of the pieces from the first number to below the second, and the space after it
abbrev pub row_text : Grammar → ℕ → ℕ → ℕ → List ℕ
row_text g n a b = codes "Row { cells = [ " ++ pieces_text g n a b ++ codes "] } "

-- the pieces from the first number to below the second: four in a row, and the rest in another
abbrev pub rows_text : Grammar → ℕ → ℕ → ℕ → List ℕ
rows_text g n a b = if nat_lt (a + 4) b then row_text g n a (a + 4) ++ row_text g n (a + 4) b else row_text g n a b

-- what stands before the pieces of group j
abbrev pub opening : Grammar → ℕ → List ℕ
opening Stack j = codes "Column { kids = [ "
opening Block j = codes "Block { margin = 2 pad = 1 border = 0 kids = [ "
opening Inline j = codes "Span { kids = [ "
opening Float j = codes "Group { pad = 2 kids = [ "
opening Table j = codes "Row { cells = [ "
opening Flow j = if is_grid j then codes "Grid { margin = 4 rows = [ "
    else codes "Para { margin = 6 space = 4 items = [ "

-- what stands between the brackets of group j
abbrev pub group_pieces : Grammar → ℕ → ℕ → ℕ → ℕ → List ℕ
group_pieces Stack n j a b = pieces_text Stack n a b
group_pieces Block n j a b = pieces_text Block n a b
group_pieces Inline n j a b = pieces_text Inline n a b
group_pieces Float n j a b = pieces_text Float n a b
group_pieces Table n j a b = pieces_text Table n a b
group_pieces Flow n j a b = if is_grid j then rows_text Flow n a b else pieces_text Flow n a b

-- group j of n pieces: those from 8 * j on, eight or as many as there are
abbrev pub group_text : Grammar → ℕ → ℕ → List ℕ
group_text g n j = opening g j ++ group_pieces g n j (8 * j) (min n (8 * (j + 1))) ++ codes "] }\n"

-- the line before the groups
abbrev pub head : Grammar → List ℕ
head Stack = codes "Sheet { body = Column { kids = [\n"
head Block = codes "Screen { vw = 800 body = Block { margin = 8 pad = 4 border = 1 kids = [\n"
head Inline = codes "Para { vw = 600 space = 4 kids = [\n"
head Float = codes "Screen { vw = 600 kids = [\n"
head Table = codes "Table { rows = [\n"
head Flow = codes "Article { vw = 800 pad = 16 kids = [\n"

-- the line after the groups
abbrev pub tail : Grammar → List ℕ
tail Stack = codes "] } }\n"
tail Block = codes "] } }\n"
tail Inline = codes "] }\n"
tail Float = codes "] }\n"
tail Table = codes "] }\n"
tail Flow = codes "] }\n"

-- how many groups n pieces are in
abbrev pub group_count : ℕ → ℕ
group_count n = div_ceil n 8

-- the page of n pieces
abbrev pub sample_text : Grammar → ℕ → List ℕ
sample_text g n =
    codes "%page 1\n%grammar " ++ name_of g ++ codes "\n%schedule auto\n%document\n"
    ++ head g ++ flat_map (group_text g n) (range_with_len 0 (group_count n)) ++ tail g
