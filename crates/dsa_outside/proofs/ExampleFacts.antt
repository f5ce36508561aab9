-- Worked rows: what the definitions say of small files and sinks.
use Rattle.std.proofs.Common.{◌≡◌, ℕ, true, false, [], ◌∷◌, length, None, Some, take, refl, ap, arith, rules}
use Rattle.std.specs.Option.{option_map}
use Rattle.std.specs.FinMap.{empty, gets, insert}
use Rattle.dsa_outside.specs.Held.{FileMap, file_at, with_file, without_file, with_text, IsMissing, IsReadOf}
use Rattle.dsa_outside.specs.Faults.{AllStay, NoneFell}
use Rattle.dsa_outside.specs.Calls.{CallState, after_call, is_due}

-- the name 'i' holds three bytes
abbrev pub one_file : FileMap
one_file = insert empty (105 ∷ []) (1 ∷ 2 ∷ 3 ∷ [])

pub three_bytes_are_held : file_at (Some one_file) (105 ∷ []) ≡ Some (1 ∷ 2 ∷ 3 ∷ [])
three_bytes_are_held = grind (gets, rules)

-- a longer name is another name
longer_name_is_missing : IsMissing (Some one_file) (105 ∷ 105 ∷ [])
longer_name_is_missing = grind (gets, rules)

nothing_is_told : file_at None (105 ∷ []) ≡ None
nothing_is_told = refl

first_two_are_read : IsReadOf (Some one_file) (105 ∷ []) 2 (1 ∷ 2 ∷ [])
first_two_are_read = λ told. ap (option_map (take 2)) three_bytes_are_held

-- a write to the name 'o' leaves 'i'
written_beside : file_at (with_file (Some one_file) (111 ∷ []) (9 ∷ [])) (105 ∷ []) ≡ Some (1 ∷ 2 ∷ 3 ∷ [])
written_beside = grind (gets, rules)

-- a write to 'i' takes the place of what it held
written_over : file_at (with_file (Some one_file) (105 ∷ []) (9 ∷ [])) (105 ∷ []) ≡ Some (9 ∷ [])
written_over = grind (gets, rules)

-- of all other names than 'i', 'i' is none
others_leave_it_out : file_at (without_file (Some one_file) (105 ∷ [])) (105 ∷ []) ≡ None
others_leave_it_out = grind (gets, rules)

-- and what another name holds stays
others_stay : file_at (without_file (Some (insert one_file (111 ∷ []) (9 ∷ []))) (105 ∷ [])) (111 ∷ []) ≡ Some (9 ∷ [])
others_stay = grind (gets, rules)

-- where nothing is told of the files, nothing is after a write
nothing_is_told_after : (with_file None (105 ∷ []) (9 ∷ []) ≡ None) × (without_file None (105 ∷ []) ≡ None)
nothing_is_told_after = (refl, refl)

-- a name that is there is not missing, and where nothing is told none is
not_missing : IsMissing (Some one_file) (105 ∷ []) → ⊥
not_missing h = let e = three_bytes_are_held in absurd cc

none_is_missing : IsMissing None (105 ∷ []) → ⊥
none_is_missing h = h

-- of three bytes no more than two are read, and no fewer
not_all_are_read : IsReadOf (Some one_file) (105 ∷ []) 2 (1 ∷ 2 ∷ 3 ∷ []) → ⊥
not_all_are_read h = let e = h refl in let f = first_two_are_read refl in absurd cc

not_one_is_read : IsReadOf (Some one_file) (105 ∷ []) 2 (1 ∷ []) → ⊥
not_one_is_read h = let e = h refl in let f = first_two_are_read refl in absurd cc

text_is_put_last : with_text (Some (1 ∷ [])) (2 ∷ []) ≡ Some (1 ∷ 2 ∷ [])
text_is_put_last = refl

-- calls 0 and 2 are to fail
pub listed : ℕ → ℕ → CallState
listed next faults = record { failing = 2 ∷ 0 ∷ []; next = next; faults = faults }

pub first_is_due : is_due (listed 0 0) ≡ true
unfolding listed
first_is_due = refl

pub second_is_not : is_due (listed 1 1) ≡ false
unfolding listed
second_is_not = refl

first_call_fails : after_call (listed 0 0) ≡ listed 1 1
unfolding listed
first_call_fails = refl

second_call_passes : after_call (listed 1 1) ≡ listed 2 1
unfolding listed
second_call_passes = refl

-- ---- the numbers of all names: here a name's number is none, or the length of the name
none_fell : NoneFell (λ name. 0) length
none_fell name = omega arith

-- the number of a name of two letters falls
one_fell : NoneFell length (λ name. 1) → ⊥
one_fell h = let k = h (105 ∷ 105 ∷ []) in omega arith

all_stay : AllStay length length
all_stay name = refl

-- the number of the empty name stays, and that of a name of one letter rises
one_rises : AllStay (λ name. 0) length → ⊥
one_rises h = let k = h (105 ∷ []) in omega arith
