-- Worked facts of what is asked and found.
use Rattle.std.proofs.Common.{◌≡◌, ◌∙◌, ℕ, inl, inr, List, [], ◌∷◌, length, refl, sym, ap, arith}
use Rattle.std.specs.Global.{Vec}
use Rattle.dsa_terms.specs.Buffers.{Instance}
use Rattle.dsa_terms.specs.Layouts.{IsLayout}
use Rattle.dsa_terms.specs.Logs.{Line, Log, Over}
use Rattle.core_find.specs.Carried.{IsEnd, named}
use Rattle.core_find.specs.Cores.{AreAmong, without}
use Rattle.core_find.specs.Found.{AreRests, IsAnswer, IsFound, rests_of}
use Rattle.core_find.specs.Looking.{AreNamed, IsLooked}
use Rattle.core_find.specs.declared.ask.Asked.TheVariants.{Layout}
use Rattle.core_find.specs.declared.found.Found.TheVariants.{Fits}

-- ---- numbers
the_others : without 5 (3 ∷ 5 ∷ 8 ∷ []) ≡ 3 ∷ 8 ∷ []
the_others = refl

is_among : AreAmong (8 ∷ []) (3 ∷ 8 ∷ [])
is_among b (inl e) = inr (inl e)
is_among b (inr z) = absurd z

is_not_among : AreAmong (5 ∷ []) (3 ∷ 8 ∷ []) → ⊥
is_not_among h = elim (h 5 (inl refl)) [
  | inl e ↦ omega (arith, e)
  | inr i ↦ elim i [ inl e ↦ omega (arith, e) | inr z ↦ absurd z ]
]

-- a claim of three members that names the first and the last
two_of_three : named (3 ∷ 5 ∷ 8 ∷ []) ((0, 0) ∷ (2, 0) ∷ []) ≡ 3 ∷ 8 ∷ []
two_of_three = refl

-- ---- answers, of an instance without buffers
nothing : IsLayout [] 0 []
nothing = record {
  count = refl;
  aligned = λ b lt. absurd (omega arith);
  above = λ b lt. absurd (omega arith);
  within = λ b lt. absurd (omega arith);
  apart = λ b c t lb. absurd (omega arith);
}

no_offsets : (v : Vec ℕ) → v.items ≡ [] → IsAnswer [] 0 (Layout v)
no_offsets v none = rw none nothing

an_offset : (v : Vec ℕ) → v.items ≡ 5 ∷ [] → IsAnswer [] 0 (Layout v) → ⊥
an_offset v one h = let e = ap length (sym one) ∙ h.count in omega (arith, e)

nothing_fits : (v : Vec ℕ) → v.items ≡ [] → IsFound [] 0 (Fits v)
nothing_fits v none = rw none nothing

its_offsets : (v : Vec ℕ) → rests_of (v ∷ []) ≡ v.items ∷ []
its_offsets v = refl

-- a member without a layout of the others
no_rest : (I : Instance) (C b : ℕ) → AreRests I C (b ∷ []) [] 1 → ⊥
no_rest I C b h = let e = h.count in omega (arith, e)

-- ---- members that are looked at
none_looked_at : IsLooked [] 0 [] [] 0
none_looked_at = record {
  rises = tt;
  in_range = λ k d lt. absurd (omega arith);
  within = omega arith;
  rests = record { count = refl; each = λ k lt. absurd (omega arith) };
  left = λ ms l. l;
}

-- none are named: an instance without buffers fits
not_none : (members : List ℕ) → AreNamed [] 0 members [] → ⊥
not_none members h = h.do_not_fit [] nothing

-- the end is the line of that number
over : Line
over = Over ((0, 0) ∷ []) 0 0 1

its_end : (g : Log) → g.lines ≡ over ∷ [] → g.final ≡ 0 → IsEnd g over
its_end g lines final = rw (lines, final) refl

no_end : (g : Log) → g.lines ≡ over ∷ [] → g.final ≡ 1 → IsEnd g over → ⊥
no_end g lines final e = cc (rw (lines, final) at e)
