-- Worked facts of what is known while members are looked at: two buffers of size 4 that are live together, and a log
-- by which the second alone does not fit at 3.
use Rattle.std.proofs.Common.{◌≡◌, ◌∙◌, ℕ, zero, suc, ◌<◌, All, List, [], ◌∷◌, slice_get, slice_index, Some, None, inl, inr, refl, sym, ap, subst, lit<, arith}
use Rattle.std.specs.Global.{Vec}
use Rattle.dsa_terms.specs.Buffers.{Instance, buffer}
use Rattle.dsa_terms.specs.Layouts.{IsInfeasible}
use Rattle.dsa_terms.specs.Logs.{IsAccepted, Line, Over, claim_of}
use Rattle.dsa_terms.proofs.Lists.{same_some}
use Rattle.dsa_terms.proofs.Ranges.{rises-range}
use Rattle.dsa_model.specs.Chosen.{some_of}
use Rattle.core_find.specs.Carried.{IsEnd, named}
use Rattle.core_find.specs.Looking.{AreNamed, IsLogOf, IsLooking, IsUnknown, log_members, next_member}
use Rattle.core_find.specs.declared.looking.Looking.{Looking}
use Rattle.core_find.proofs.Some.{some_of_all}
use Rattle.core_find.proofs.StackFacts.{both, by_second, last, none_is_over, second_is_accepted, second_is_over, two}
use Rattle.core_find.proofs.Steps.{at_first}

-- ---- the log
of_both : IsLogOf two 3 (0 ∷ 1 ∷ []) by_second
of_both = (subst (λ (J : Instance). IsAccepted J by_second) (sym (some_of_all two)) second_is_accepted, refl)

not_at_4 : IsLogOf two 4 (0 ∷ 1 ∷ []) by_second → ⊥
not_at_4 h = omega (arith, h.1)

-- it counts two buffers
not_of_the_second_alone : IsLogOf two 3 (1 ∷ []) by_second → ⊥
not_of_the_second_alone h = let e : 2 ≡ 1 = h.0.same_count in omega (arith, e)

-- ---- those that its end names
second_does_not_fit : IsInfeasible (some_of two (1 ∷ [])) 3
unfolding buffer
second_does_not_fit offsets h = let k = h.within 0 (lit< tt) in omega (arith, k)

second_is_named : AreNamed two 3 (0 ∷ 1 ∷ []) (1 ∷ [])
second_is_named = record { rise = ((λ y i. absurd i), tt); among = λ b i. inr i; do_not_fit = second_does_not_fit }

both_in_range : All (λ b. b < 2) (0 ∷ 1 ∷ [])
both_in_range zero d lt = omega arith
both_in_range (suc zero) d lt = omega arith
both_in_range (suc (suc k)) d lt = absurd (omega arith)

module _ (at : Looking) where
  -- ---- three members, of which one was looked at
  second_is_next : (rest : Vec ℕ) → at.members.items ≡ 3 ∷ 5 ∷ 8 ∷ [] → at.rests.items ≡ rest ∷ [] →
      next_member at ≡ 5
  second_is_next rest members rests = rw (members, rests) refl

  log_of_those_there_are : at.members.items ≡ 3 ∷ 5 ∷ 8 ∷ [] → at.before ≡ None → log_members at ≡ 3 ∷ 5 ∷ 8 ∷ []
  log_of_those_there_are members none = rw (none, members) refl

  -- the third was dropped since
  log_of_those_before : (before : Vec ℕ) → before.items ≡ 3 ∷ 5 ∷ 8 ∷ [] → at.before ≡ Some before →
      log_members at ≡ 3 ∷ 5 ∷ 8 ∷ []
  log_of_those_before before members some = rw (some, members) refl

  -- ---- both are still to be looked at
  module _ (members : at.members.items ≡ 0 ∷ 1 ∷ []) (rests : at.rests.items ≡ []) (none : at.before ≡ None) where
    none_looked_at : at.log ≡ by_second → at.named.items ≡ 1 ∷ [] → IsLooking two 3 at
    none_looked_at log names = record {
      looked = at_first two 3 at.members.items at.rests.items members rests;
      names = rw (members, names) second_is_named;
      by_end = λ line e. names ∙ sym (its_names line e);
      log_rises = rw (none, members) (rises-range 2 0);
      log_in_range = rw (none, members) both_in_range;
      log_of = rw (none, members, log) of_both;
    }
      where
        its_names : (line : Line) → IsEnd at.log line → named (log_members at) (claim_of line) ≡ 1 ∷ []
        its_names line e =
            let is : slice_get by_second.lines 0 ≡ Some line = rw log at e in
            rw (none, members) (ap (λ (x : Line). named (0 ∷ 1 ∷ []) (claim_of x)) (sym (same_some is)))

    -- the end does not name the first
    not_by_the_first : at.log ≡ by_second → at.named.items ≡ 0 ∷ [] → IsLooking two 3 at → ⊥
    not_by_the_first log names h =
        let e = h.by_end (Over last 0 0 1) (rw log refl) in
        let k : 0 ≡ 1 = ap (λ (ks : List ℕ). slice_index ks 0) (rw (names, none, members) at e) in omega (arith, k)

    -- so the log says that the first can go
    first_is_known : at.named.items ≡ 1 ∷ [] → IsUnknown two 3 at → ⊥
    first_is_known names h = elim (rw (members, rests, names) at h.named) [
      | inl e ↦ omega (arith, e)
      | inr z ↦ z
    ]

    -- a log by both says so too, for its stack is over without the first
    known_by_the_stack : at.log.lines ≡ both ∷ [] → at.log.final ≡ 0 → at.named.items ≡ 0 ∷ 1 ∷ [] →
        IsUnknown two 3 at → ⊥
    known_by_the_stack lines final names h =
        h.not_over both (rw (lines, final) refl) (rw (members, rests, names) second_is_over)

  -- ---- the second one alone is there
  second_is_unknown : at.members.items ≡ 1 ∷ [] → at.rests.items ≡ [] → at.log ≡ by_second →
      at.named.items ≡ 1 ∷ [] → IsUnknown two 3 at
  second_is_unknown members rests log names = record {
    named = rw (members, rests, names) (inl refl);
    not_over = λ line e h. none_is_over (rw (members, rests, names, ← same_some (rw log at e)) at h);
  }
