-- The two widths of numbers.
use Rattle.std.specs.Prelude.{ℕ}
use Rattle.ftl_model.specs.layout.Values.{narrow, wide}
use Rattle.ftl_base.specs.declared.width.Width.{Width}
use Rattle.ftl_base.specs.declared.width.Width.TheVariants.{Narrow, Wide}

-- the greatest number of a width
abbrev pub greatest_of_width : Width → ℕ
greatest_of_width Narrow = narrow
greatest_of_width Wide = wide
