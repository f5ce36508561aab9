-- The marks of a worked log: a line that nothing cites has none.
use Rattle.std.proofs.Common.{◌≡◌, ℕ, zero, suc, ◌<◌, inl, inr, true, false, [], ◌∷◌, Some, refl, lit<, arith}
use Rattle.dsa_terms.specs.Claims.{IsIn}
use Rattle.dsa_terms.specs.Logs.{ByLine, Twin, Line, Over, Cases, Log}
use Rattle.dsa_terms.specs.Parts.{has}
use Rattle.dsa_trim_laws.specs.Trimmed.{cited, needed, with_cited}
use Rattle.dsa_terms.proofs.Examples.{over_2, over_1, over_01}
use Rattle.log_trim.specs.Ends.{IsEndClaim}
use Rattle.log_trim.specs.Marks.{AreMarkedToo, CiteEarlier, marks_of}
use Rattle.log_trim.proofs.Marked.{marked_one}

abbrev with_extra : Log
with_extra = record {
  count = 3;
  capacity = 4;
  lines = Over ((0, 5) ∷ []) 0 5 1 ∷ over_2 ∷ over_1 ∷ Cases ((1, 1) ∷ (2, 1) ∷ []) (ByLine 1 ∷ ByLine 2 ∷ []) ∷ over_01
      ∷ Cases ((0, 0) ∷ (1, 0) ∷ (2, 0) ∷ []) (ByLine 3 ∷ Twin 0 ∷ ByLine 4 ∷ []) ∷ [];
  final = 5;
}

marks_of_needed : marks_of 6 (needed with_extra) ≡ false ∷ true ∷ true ∷ true ∷ true ∷ true ∷ []
unfolding marks_of needed with_cited has
marks_of_needed = refl

marks_of_three : marks_of 3 (2 ∷ 0 ∷ []) ≡ true ∷ false ∷ true ∷ []
unfolding marks_of has
marks_of_three = refl

end_claim : IsEndClaim with_extra ((0, 0) ∷ (1, 0) ∷ (2, 0) ∷ [])
end_claim = record {
  line = Cases ((0, 0) ∷ (1, 0) ∷ (2, 0) ∷ []) (ByLine 3 ∷ Twin 0 ∷ ByLine 4 ∷ []);
  there = refl;
  claim = refl;
}

-- the end bounds three buffers
other_end_claim : IsEndClaim with_extra ((0, 0) ∷ []) → ⊥
other_end_claim h = let t = h.there in let c = h.claim in absurd cc

-- the second line cites the first
cites_earlier : CiteEarlier (over_2 ∷ Cases ((1, 1) ∷ []) (ByLine 0 ∷ []) ∷ [])
cites_earlier zero line j h i = absurd (none line j h i)
  where
    none : (line : Line) (j : ℕ) → Some over_2 ≡ Some line → IsIn j (cited line) → ⊥
    none line j h i = let e : over_2 ≡ line = cc in let k : IsIn j (cited over_2) = rw (← e) at i in k
cites_earlier (suc zero) line j h i = first line j h i
  where
    first : (line : Line) (j : ℕ) → Some (Cases ((1, 1) ∷ []) (ByLine 0 ∷ [])) ≡ Some line → IsIn j (cited line) → j < 1
    first line j h i =
        let e : Cases ((1, 1) ∷ []) (ByLine 0 ∷ []) ≡ line = cc in
        let k : IsIn j (cited (Cases ((1, 1) ∷ []) (ByLine 0 ∷ []))) = rw (← e) at i in
        elim k [ inl q ↦ omega arith | inr q ↦ absurd q ]
cites_earlier (suc (suc k)) line j h i = absurd cc

-- a line that cites itself
cites_itself : CiteEarlier (Cases ((1, 1) ∷ []) (ByLine 0 ∷ []) ∷ []) → ⊥
cites_itself h = let k = h 0 (Cases ((1, 1) ∷ []) (ByLine 0 ∷ [])) 0 refl (inl refl) in omega arith

-- a mark that is not set
not_marked : AreMarkedToo (0 ∷ []) (false ∷ []) (false ∷ []) → ⊥
unfolding marks_of has
not_marked h = let k : false ∷ [] ≡ true ∷ [] = h 1 [] refl in absurd cc

-- a mark that is set
marked : AreMarkedToo (0 ∷ []) (false ∷ []) (true ∷ [])
marked = marked_one 0 (false ∷ []) (lit< tt)
