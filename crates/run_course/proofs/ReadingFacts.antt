-- What reading a file comes to: its bytes, too many of them, or a call that failed.
use Rattle.std.proofs.Common.{◌≡◌, ◌<◌, ℕ, List, length, Some, None, inl, inr, codes, refl, ap, lit<, lit≤, arith}
use Rattle.dsa_outside.specs.Held.{file_at}
use Rattle.dsa_outside.specs.Seen.{FilesSeen}
use Rattle.std.specs.FinMap.{empty}
use Rattle.command_words.specs.Roles.{limit_of}
use Rattle.command_words.specs.declared.role.Role.TheVariants as role
use Rattle.run_status.specs.declared.status.Status.TheVariants as status
use Rattle.run_course.specs.Complete.{IsCalm, IsReadable}
use Rattle.run_course.specs.Course.{IsUnreadable}
use Rattle.run_course.specs.Readings.{HoldsMore, IsUnread, IsWholeFile}
use Rattle.run_course.proofs.ExampleFacts.{before, failed, holding, reads_i, reads_none, told}

-- ---- all bytes of a file
whole : IsWholeFile (told before) role.Input (codes "i") (codes "ab")
whole = record { held = λ told. reads_i (codes "ab"); short = lit≤ tt }

-- not its first bytes alone
not_in_part : IsWholeFile (told before) role.Input (codes "i") (codes "a") → ⊥
not_in_part h = let e = h.held refl in let same = reads_i (codes "ab") in absurd cc

-- where nothing is told of the files it may be any bytes that are few enough
where_nothing_is_told : IsWholeFile (record { held = None; faults = λ name. 0 }) role.Input (codes "i") (codes "x")
where_nothing_is_told = record { held = λ told. absurd cc; short = lit≤ tt }

-- as many as the limit are not too many
at_the_limit : (bytes : List ℕ) → length bytes ≡ 67108864 →
    IsWholeFile (told (holding bytes)) role.Input (codes "i") bytes
at_the_limit bytes e = record { held = λ told. reads_i bytes; short = omega (arith, e) }

-- and one more is
past_the_limit : (bytes : List ℕ) → length bytes ≡ 67108865 → HoldsMore (told (holding bytes)) role.Input (codes "i")
past_the_limit bytes e = record { bytes = bytes; held = reads_i bytes; long = omega (arith, e) }

-- a log may have more
not_of_a_log : (bytes : List ℕ) → length bytes ≡ 67108865 →
    IsWholeFile (told (holding bytes)) role.Log (codes "i") bytes
not_of_a_log bytes e = record { held = λ told. reads_i bytes; short = omega (arith, e) }

two_are_not_too_many : HoldsMore (told before) role.Input (codes "i") → ⊥
two_are_not_too_many h = few h.bytes h.held h.long
  where
    few : (bytes : List ℕ) → file_at (Some before) (codes "i") ≡ Some bytes → limit_of role.Input < length bytes → ⊥
    few bytes held long =
        let same = reads_i (codes "ab") in
        let is : codes "ab" ≡ bytes = cc in
        let n = ap length is in
        omega (arith, n, long)

-- ---- files that are readable
readable : IsReadable (told before) role.Input (codes "i")
readable = record { bytes = codes "ab"; held = reads_i (codes "ab"); short = lit≤ tt }

not_without_a_file : IsReadable (told empty) role.Input (codes "i") → ⊥
not_without_a_file h = let e = h.held in let none = reads_none in absurd cc

-- ---- calls that fail
-- the call on the name itself
its_call_failed : IsUnread (told before) (failed before (codes "i")) (codes "i")
its_call_failed = inl (inl (lit< tt))

-- and not one on another name, where the file is there
not_another_call : IsUnread (told before) (failed before (codes "o")) (codes "i") → ⊥
not_another_call (inl rose) = omega (arith, rose)
not_another_call (inr missing) = let same = reads_i (codes "ab") in absurd cc

calm : IsCalm (told before) (failed before (codes "o")) (codes "i")
calm rose = omega (arith, rose)

not_calm : IsCalm (told before) (failed before (codes "i")) (codes "i") → ⊥
not_calm h = h (inl (lit< tt))

-- ---- the status
-- the role that is told is that of the file
of_its_own_role : (old new : FilesSeen) → IsUnreadable old new role.Log (codes "l") (status.ReadFault role.Input) → ⊥
of_its_own_role old new (inl (e, unread)) = absurd cc
of_its_own_role old new (inr (e, more)) = absurd cc

-- two bytes are not told to be too many
not_too_long : (new : FilesSeen) → IsUnreadable (told before) new role.Input (codes "i") (status.TooLong role.Input) → ⊥
not_too_long new (inl (e, unread)) = absurd cc
not_too_long new (inr (e, more)) = two_are_not_too_many (more refl)
