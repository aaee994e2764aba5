-- What a blob that was read comes to. Assumes nothing.
use Rattle.std.specs.Prelude.{ℕ, List, Ok, Err, Result}
use Rattle.tree.specs.Entries.{Entry}
use Rattle.blob.specs.declared.types.Refusal.{Refusal}
use Rattle.reader.specs.declared.flat.Flat.{Flat}
use Rattle.reader.specs.Reading.{entries_of}

-- its boot CPU number and its entries, or the refusal
abbrev pub read_of : Result Flat Refusal → Result (ℕ × List Entry) Refusal
read_of (Ok f) = Ok (f.blob.layout.boot, entries_of f.blob.bytes.now f.blob.layout)
read_of (Err e) = Err e
