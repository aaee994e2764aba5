-- What is printed of a file that holds some bytes. Assumes nothing.
use Rattle.std.specs.Prelude.{ℕ, cond, List, [], ◌∷◌, ◌++◌, length, Some, None, Ok, Err, codes, decimal, Option, Result, nat_lt}
use Rattle.blob.specs.declared.types.Refusal.{Refusal}
use Rattle.blob.specs.Refusals.{number_of, place_of, words_of}
use Rattle.tree.specs.Entries.{Entry, listed, tree_of}
use Rattle.tree.specs.Places.{Bytes, Place}
use Rattle.tree.specs.Trees.{Places, nodes, properties, weight}
use Rattle.listing.specs.Shown.{hex, is_text, quoted}

-- a space and the value's length; a space and its bytes in hexadecimal, if it has any; a space and the text, if it is one
abbrev pub value_text : Bytes → List ℕ
value_text v =
    (codes " " ++ decimal (length v))
    ++ (cond (nat_lt 0 (length v)) (codes " " ++ hex v) [] ++ cond (is_text v) (codes " " ++ quoted v) [])

-- a space, the property's name and its value; nothing for a node
abbrev pub property_text : Option Bytes → Bytes → List ℕ
property_text None v = []
property_text (Some name) v = codes " " ++ (name ++ value_text v)

-- the line of a place: its path, and what is said of a property
abbrev pub line_of : Place × Bytes → List ℕ
line_of e = e.0.0 ++ (property_text e.0.1 e.1 ++ codes "\n")

abbrev pub lines_of : Places → List ℕ
lines_of [] = []
lines_of (e ∷ es) = line_of e ++ lines_of es

-- the first line of a blob that is accepted
abbrev pub good_line : List ℕ → ℕ → ℕ → ℕ → ℕ → List ℕ
good_line file boot n p w =
    file
    ++ (codes ": ok boot=" ++ (decimal boot ++ (codes " nodes=" ++ (decimal n ++ (codes " properties=" ++ (decimal p ++ (codes " weight=" ++ (decimal w ++ codes "\n"))))))))

-- the only line of one that is refused
abbrev pub refused_line : List ℕ → Refusal → List ℕ
refused_line file e =
    file ++ (codes ": refused " ++ (decimal (number_of e) ++ (codes " at " ++ (decimal (place_of e) ++ (codes ": " ++ (words_of e ++ codes "\n"))))))

-- all that is printed: of an accepted blob, its tree in document order too
abbrev pub good_page : List ℕ → ℕ → List Entry → List ℕ
good_page file boot es =
    good_line file boot (nodes (listed es)) (properties (listed es)) (weight (listed es)) ++ lines_of (tree_of boot es).places

abbrev pub page : List ℕ → Result (ℕ × List Entry) Refusal → List ℕ
page file (Ok r) = good_page file r.0 r.1
page file (Err e) = refused_line file e
