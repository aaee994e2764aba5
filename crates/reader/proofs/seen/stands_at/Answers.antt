use Rattle.std.proofs.Common.{◌≡◌, ℕ, length, take, drop, ◌&&◌, eqb, Bool, List, [], ◌∷◌, refl, ap, ◌∙◌}
use Rattle.std.specs.Cmp.Lexicographic.{pointwise}
use Rattle.std.specs.List.{starts_with}
use Rattle.std.proofs.lemmas.List.{take_rest}
use Rattle.reader.specs.Seen.{begins}
use Rattle.reader.proofs.Begun.{begins-text}
use Rattle.reader.proofs.seen.stands_at.Goals as goal

-- what the two comparisons come to
parts :
    (bytes rest text behind name : List ℕ)
    (at : ℕ)
    (s e : Bool) →
    rest ≡ drop at bytes →
    text ≡ take (length name) rest →
    behind ≡ drop (length name) rest →
    s ≡ starts_with eqb behind (0 ∷ []) →
    e ≡ pointwise eqb text name →
    (s && e) ≡ begins name (drop at bytes)
parts bytes rest text behind name at s e p t b r q =
    (λ i. (r ∙ ap (λ l. starts_with eqb l (0 ∷ [])) b) i && (q ∙ ap (λ l. pointwise eqb l name) t) i) ∙ begins-text name rest ∙ ap (begins name) p

pub returns-then-starts_with : goal.returns-then-starts_with
returns-then-starts_with c =
    let w = c.in-Some-split_at_checked.ensures.cases in
    let p = c.in-Some.ensures.lookup.0.2 ∙ take_rest c.args.bytes.now c.args.at in
    parts _ _ _ _ c.args.name.now c.args.at _ c.eq.result p w.1 w.2 c.if-starts_with.ensures.value c.eq.ensures

pub returns-else-starts_with : goal.returns-else-starts_with
returns-else-starts_with c =
    let w = c.in-Some-split_at_checked.ensures.cases in
    let p = c.in-Some.ensures.lookup.0.2 ∙ take_rest c.args.bytes.now c.args.at in
    c.if-starts_with.false ∙ parts _ _ _ _ c.args.name.now c.args.at _ _ p w.1 w.2 c.if-starts_with.ensures.value refl
