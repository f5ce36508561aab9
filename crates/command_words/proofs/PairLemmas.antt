-- Lists of pairs, of which some are judged.
use Rattle.std.proofs.Common.{◌≡◌, Bool, false, ◌∙◌, ℕ, ◌+◌, ◌<◌, List, [], ◌∷◌, ◌++◌, length, take, drop, get_or, Option, None, ap, refl, add-one, arith, length-drop, drop-cons}
use Rattle.std.proofs.Math.Seq.{take-suc}
use Rattle.std.specs.Option.{option_or}
use Rattle.std.specs.List.{list_any}
use Rattle.command_words.specs.Pairs.{Pair, pair_fault, pairs_fault}
use Rattle.command_words.specs.declared.verb.Verb.{Verb}

pub place_within : {A : Type 0} (xs rest : List A) (k : ℕ) (x : A) → drop k xs ≡ x ∷ rest → k < length xs
place_within xs rest k x d = omega (arith, length-drop k xs, ap length d)

pub drop_more : {A : Type 0} (xs rest : List A) (k : ℕ) (x : A) → drop k xs ≡ x ∷ rest
    → drop (k + 1) xs ≡ rest
drop_more xs rest k x d =
    let more = drop-cons xs k x (place_within xs rest k x d) in rw add-one cc

pub take_more : {A : Type 0} (xs rest : List A) (k : ℕ) (x : A) → drop k xs ≡ x ∷ rest
    → take (k + 1) xs ≡ take k xs ++ x ∷ []
take_more xs rest k x d =
    let within = place_within xs rest k x d in
    let more = drop-cons xs k x within in
    let same : get_or xs k x ≡ x = cc in
    rw add-one (take-suc xs k x within ∙ ap (λ (y : _). take k xs ++ y ∷ []) same)

or_none : {F : Type 0} (first second : Option F) → None ≡ first → option_or first second ≡ second
or_none first second none = rw (← none) refl

pub fault_is_later : (verb : Verb) (pairs rest : List Pair) (k : ℕ) (pair : Pair) → drop k pairs ≡ pair ∷ rest
    → None ≡ pair_fault verb (take k pairs) pair
    → pairs_fault verb (take k pairs) (drop k pairs) ≡ pairs_fault verb (take (k + 1) pairs) (drop (k + 1) pairs)
fault_is_later verb pairs rest k pair d none =
    let front = take_more pairs rest k pair d in
    let back = drop_more pairs rest k pair d in
    let later : pairs_fault verb (take k pairs ++ pair ∷ []) rest
    ≡ pairs_fault verb (take (k + 1) pairs) (drop (k + 1) pairs) = cc in
    ap (pairs_fault verb (take k pairs)) d
    ∙ or_none (pair_fault verb (take k pairs) pair) (pairs_fault verb (take k pairs ++ pair ∷ []) rest) none
    ∙ later

pub any_is_later : {A : Type 0} (test : A → Bool) (left next : ℕ) (xs rest : List A) (x : A) → left ≡ next + 1
    → xs ≡ x ∷ rest → test x ≡ false → list_any test (take left xs) ≡ list_any test (take next rest)
any_is_later test left next xs rest x l e f = rw (l, e, add-one, f) refl
