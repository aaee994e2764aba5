-- What an answer of `ok_or` says of what was asked. Assumes nothing.
use Rattle.std.proofs.Common.{◌≡◌, Bool, true, false, cond, Some, None, Ok, Err, Option, refl}
use Rattle.std.specs.Option.{ok_or}
use Rattle.store.specs.declared.Refusal.{Refusal}
use Rattle.tree.specs.declared.counts.Counts.{Counts}

pub refused : {A : Type 0} (x : Refusal) (o : Option A) (e : Refusal) → Err e ≡ ok_or o x → (o ≡ None) × (e ≡ x)
refused x None e q = (refl, cc)
refused x (Some y) e q = absurd cc

-- where the limits were asked
module _ (x : Refusal) (b : Bool) (n : Counts) (o : Option Counts) (said : o ≡ cond b (Some n) None) where
  pub limited : (e : Refusal) → Err e ≡ ok_or o x → (b ≡ false) × (e ≡ x)
  limited e q = go b o said q
    where
      go : (c : Bool) (y : Option Counts) → y ≡ cond c (Some n) None → Err e ≡ ok_or y x → (c ≡ false) × (e ≡ x)
      go true y s q = absurd (let z : Some n ≡ y = cc in cc)
      go false y s q = (refl, cc)

  pub within : (r : Counts) → Ok r ≡ ok_or o x → b ≡ true
  within r q = go b o said q
    where
      go : (c : Bool) (y : Option Counts) → y ≡ cond c (Some n) None → Ok r ≡ ok_or y x → c ≡ true
      go true y s q = refl
      go false y s q = absurd cc
