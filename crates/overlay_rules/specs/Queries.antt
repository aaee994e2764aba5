-- A computation that reads a tree only by questions, so that what it reads is known by its construction. Assumes nothing.
use Rattle.std.specs.Prelude.{ℕ, List, [], ◌∷◌, ◌++◌, Some, None, Ok, Err, Option, Result}
use Rattle.tree.specs.Phandles.{holder}
use Rattle.tree.specs.Places.{Bytes, Place}
use Rattle.tree.specs.Trees.{Tree, look}
use Rattle.overlay_rules.specs.Checks.{Refusal}
use Rattle.overlay_rules.specs.Overlays.{phandle_at}

pub data Query (A : Type 0) : Type 0 where
  done : A → Query A
  -- a refusal: its number, and its place
  refuse : ℕ → ℕ → Query A
  -- what is at a place
  ask : Place → (Option Bytes → Query A) → Query A
  -- which node has this phandle
  seek : ℕ → (Option Bytes → Query A) → Query A

infixl 20 ◌>>=◌
unfoldable pub ◌>>=◌ : {A B : Type 0} → Query A → (A → Query B) → Query B
done a >>= f = f a
refuse c p >>= f = refuse c p
ask k g >>= f = ask k (λ w. g w >>= f)
seek n g >>= f = seek n (λ w. g w >>= f)

-- the answer at a tree
unfoldable pub run : {A : Type 0} → Tree → Query A → Result A Refusal
run t (done a) = Ok a
run t (refuse c p) = Err (c, p)
run t (ask k g) = run t (g (look t k))
run t (seek n g) = run t (g (holder t n))

-- the places where that answer was found
abbrev pub sought : Option Bytes → List Place
sought None = []
sought (Some p) = phandle_at p ∷ []

unfoldable pub asked : {A : Type 0} → Tree → Query A → List Place
asked t (done a) = []
asked t (refuse c p) = []
asked t (ask k g) = k ∷ asked t (g (look t k))
asked t (seek n g) = sought (holder t n) ++ asked t (g (holder t n))

-- what has to be there, or a refusal
abbrev pub need : {A : Type 0} → Option A → ℕ → ℕ → Query A
need None c p = refuse c p
need (Some a) c p = done a

-- a refusal at a place, if there is one
abbrev pub stop_at : ℕ → Option ℕ → Query (Unit {0})
stop_at c None = done tt
stop_at c (Some p) = refuse c p

-- one after the other
unfoldable pub for_each : {A B : Type 0} → (A → Query B) → List A → Query (List B)
for_each f [] = done []
for_each f (a ∷ rest) = do
  b ← f a
  bs ← for_each f rest
  done (b ∷ bs)
