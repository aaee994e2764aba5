-- The path of the innermost open node, in a buffer. Assumes nothing.
use Rattle.std.specs.Prelude.{take}
use Rattle.tree.specs.Places.{Bytes}
use Rattle.loader.specs.declared.trail.Trail.{Trail}

-- the bytes that count
abbrev pub path_on : Trail → Bytes
path_on t = take t.len t.bytes
