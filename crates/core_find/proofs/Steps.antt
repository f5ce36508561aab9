-- One more member is looked at, in the words of the code.
use Rattle.std.proofs.Common.{◌≡◌, ℕ, ◌+◌, ◌-◌, ◌<◌, ◌≤◌, List, [], ◌∷◌, ◌++◌, length, map, All, Option, Some, None, unwrap_or, refl, sym, ap, ◌∙◌, subst, arith}
use Rattle.std.proofs.lemmas.List.{length-map, map_push, with_items_is}
use Rattle.std.proofs.lemmas.List.Edits.{length-remove}
use Rattle.std.specs.Global.{Vec}
use Rattle.std.specs.List.{remove}
use Rattle.std.specs.Vec.{with_items}
use Rattle.dsa_terms.specs.Buffers.{Instance}
use Rattle.dsa_terms.specs.Layouts.{IsInfeasible, IsLayout}
use Rattle.dsa_terms.specs.Parts.{numbers}
use Rattle.dsa_model.specs.Chosen.{some_of}
use Rattle.core_find.specs.Found.{rests_of}
use Rattle.core_find.specs.Looking.{IsLooked, members_before}
use Rattle.core_find.proofs.Looked.{drop_next, has_place, kept_next, none_looked}

counted : (I : Instance) (C : ℕ) (members : List ℕ) (rests : List (Vec ℕ)) (place : ℕ) →
    IsLooked I C members (rests_of rests) place → IsLooked I C members (rests_of rests) (length rests)
counted I C members rests place h =
    subst (λ n. IsLooked I C members (rests_of rests) n)
    (sym h.rests.count ∙ length-map rests (λ (v : Vec ℕ). v.items)) h

pub kept_step : (I : Instance) (C : ℕ) (members fewer : List ℕ) (rests more : List (Vec ℕ)) (rest : Vec ℕ) →
    length rests < length members → fewer ≡ remove members (length rests) → IsLayout (some_of I fewer) C rest.items →
    more ≡ rests ++ rest ∷ [] → IsLooked I C members (rests_of rests) (length rests) →
    IsLooked I C members (rests_of more) (length more)
kept_step I C members fewer rests more rest lt few layout is h =
    counted I C members more (length rests + 1)
    (kept_next I C members (rests_of rests) (rests_of more) rest.items (length rests) lt
    (subst (λ (xs : List ℕ). IsLayout (some_of I xs) C rest.items) few layout)
    (ap rests_of is ∙ map_push (λ (v : Vec ℕ). v.items) rests rest) h)

pub drop_step : (I : Instance) (C : ℕ) (members fewer : List ℕ) (rests less : List (Vec ℕ)) (place : ℕ) →
    place ≡ length rests → length rests < length members → fewer ≡ remove members place →
    IsInfeasible (some_of I fewer) C →
    rests_of less ≡ map (λ (rest : List ℕ). remove rest (place - 1)) (rests_of rests) →
    IsLooked I C members (rests_of rests) (length rests) → IsLooked I C fewer (rests_of less) (length less)
drop_step I C members fewer rests less place at lt few none is h =
    counted I C fewer less place
    (drop_next I C members fewer (rests_of rests) (rests_of less) place (omega (arith, at, lt)) few none is
    (subst (λ n. IsLooked I C members (rests_of rests) n) (sym at) h))

pub step_has_place : (I : Instance) (C : ℕ) (members : List ℕ) (rests : List (Vec ℕ)) (place : ℕ) →
    place ≡ length rests → length rests < length members → IsLooked I C members (rests_of rests) (length rests) →
    All (λ (rest : List ℕ). place ≤ length rest) (rests_of rests)
step_has_place I C members rests place at lt h =
    has_place I C members (rests_of rests) place (omega (arith, at, lt))
    (subst (λ n. IsLooked I C members (rests_of rests) n) (sym at) h)

-- ---- the layouts after one of their items is left out
left_items : (v : Vec (Vec ℕ)) (old new : List (Vec ℕ)) (f : List ℕ → List ℕ) → old ≡ v.items →
    rests_of new ≡ map f (rests_of old) → (with_items v new).items ≡ new
left_items v old new f is e =
    with_items_is v new (sym (length-map new (λ (w : Vec ℕ). w.items)) ∙ ap length e ∙ length-map (rests_of old) f
    ∙ length-map old (λ (w : Vec ℕ). w.items) ∙ ap length is ∙ sym v.ok.0)

pub drop_looked : (I : Instance) (C : ℕ) (members fewer : List ℕ) (v : Vec (Vec ℕ)) (old new : List (Vec ℕ))
    (place : ℕ) → place ≡ length v.items → length v.items < length members → fewer ≡ remove members place →
    IsInfeasible (some_of I fewer) C → old ≡ v.items →
    rests_of new ≡ map (λ (rest : List ℕ). remove rest (place - 1)) (rests_of old) →
    IsLooked I C members (rests_of v.items) (length v.items) →
    IsLooked I C fewer (rests_of (with_items v new).items) (length (with_items v new).items)
drop_looked I C members fewer v old new place at lt few none is e h =
    rw (left_items v old new (λ (rest : List ℕ). remove rest (place - 1)) is e)
    (drop_step I C members fewer v.items new place at lt few none
    (e ∙ ap (λ (rs : List (Vec ℕ)). map (λ (rest : List ℕ). remove rest (place - 1)) (rests_of rs)) is) h)

-- one fewer is ahead
pub dropped_nearer : (members fewer : List ℕ) (v : Vec (Vec ℕ)) (old new : List (Vec ℕ)) (place : ℕ) →
    place ≡ length v.items → length v.items < length members → fewer ≡ remove members place → old ≡ v.items →
    rests_of new ≡ map (λ (rest : List ℕ). remove rest (place - 1)) (rests_of old) →
    length fewer - length (with_items v new).items < length members - length v.items
dropped_nearer members fewer v old new place at lt few is e =
    let one : length fewer + 1 ≡ length members = rw few (length-remove members place (omega (arith, at, lt))) in
    let same : length (with_items v new).items ≡ length v.items =
    ap length (left_items v old new (λ (rest : List ℕ). remove rest (place - 1)) is e)
    ∙ sym (length-map new (λ (w : Vec ℕ). w.items)) ∙ ap length e
    ∙ length-map (rests_of old) (λ (rest : List ℕ). remove rest (place - 1))
    ∙ length-map old (λ (w : Vec ℕ). w.items) ∙ ap length is in
    omega (arith, one, same, lt)

-- ---- at first
pub at_first : (I : Instance) (C : ℕ) (members : List ℕ) (rests : List (Vec ℕ)) → members ≡ numbers (length I) →
    rests ≡ [] → IsLooked I C members (rests_of rests) (length rests)
at_first I C members rests all none =
    rw none (none_looked I C members [] all refl)

-- ---- the members that the last log is of
pub before_stays : (before : Option (Vec ℕ)) (members : Vec ℕ) →
    (unwrap_or before members).items ≡ members_before before members.items
before_stays None members = refl
before_stays (Some v) members = refl
