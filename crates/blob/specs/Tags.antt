-- The numbers that begin tokens. Assumes nothing.
use Rattle.std.specs.Prelude.{ℕ, cond, Some, None, Option, ◌==◌}
use Rattle.blob.specs.declared.types.Tag.{Tag}
use Rattle.blob.specs.declared.types.Tag.TheVariants.{Begin, End, Property, Nop, Finish}

-- the kind of token that a number begins, if it begins one
abbrev pub tag_of : ℕ → Option Tag
tag_of k = cond (k == 1) (Some Begin) (cond (k == 2) (Some End) (cond (k == 3) (Some Property) (cond (k == 4) (Some Nop) (cond (k == 9) (Some Finish) None))))
