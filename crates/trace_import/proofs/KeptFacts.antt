-- Worked facts of what is kept of a trace, and of what is found for its identifiers.
use Rattle.std.proofs.Common.{◌≡◌, ◌+◌, ℕ, List, [], ◌∷◌, Bool, true, false, ◌&&◌, cond, codes, Option, Some, None, option_map, position, inl, inr, refl, arith}
use Rattle.std.specs.Borrow.{Bor}
use Rattle.std.specs.Global.{Vec}
use Rattle.std.specs.Option.{option_or}
use Rattle.std.specs.Str.{bytes_eq}
use Rattle.dsa_model.specs.Buffer.{when}
use Rattle.dsa_terms.specs.Claims.{IsIn}
use Rattle.dsa_terms.proofs.Lists.{same_some}
use Rattle.trace_import.specs.Faults.{holder}
use Rattle.trace_import.specs.Found.{AreFrees, AreHolders}
use Rattle.trace_import.specs.Kept.{IsKeptTrace, events_of}
use Rattle.trace_import.specs.Limits.{IsWithin}
use Rattle.trace_import.specs.Traces.{Alloc, Event, Free}
use Rattle.trace_import.specs.declared.line.Line.TheVariants as line
use Rattle.trace_import.specs.declared.trace.Trace.TheInside.{Inside}

-- ---- one allocation, and the line that frees it
module _ (t : Inside) (id : Vec ℕ) (a : id.items ≡ codes "a")
    (lines : t.lines.items ≡ line.Alloc id 8 4 ∷ line.Free id ∷ []) where
  its_events : events_of t ≡ Alloc (codes "a") 8 4 ∷ Free (codes "a") ∷ []
  its_events = rw (lines, a) refl

  its_allocation : (other : List ℕ) (size alignment : ℕ) →
      IsIn (Alloc other size alignment) (Alloc (codes "a") 8 4 ∷ Free (codes "a") ∷ []) → IsWithin other size alignment
  its_allocation other size alignment (inl e) =
      let o : other ≡ codes "a" = cc in
      let s : size ≡ 8 = cc in
      let l : alignment ≡ 4 = cc in
      rw (o, s, l) (record {
        some_size = omega arith;
        small = omega arith;
        some_alignment = omega arith;
        narrow = omega arith;
        short = omega arith;
      })
  its_allocation other size alignment (inr (inl e)) = absurd cc
  its_allocation other size alignment (inr (inr z)) = absurd z

  -- one buffer is counted, and not two
  is_kept : t.buffers ≡ 1 → IsKeptTrace t
  is_kept one = record {
    within = rw its_events its_allocation;
    few = omega arith;
    counted = rw (its_events, one) refl;
    short = rw its_events (omega arith);
  }

  not_two_buffers : t.buffers ≡ 2 → IsKeptTrace t → ⊥
  not_two_buffers two h = let e : 2 ≡ 1 = rw (its_events, two) at h.counted in omega (arith, e)

-- ---- one identifier, and the number of a line
module _ (id : Bor (List ℕ)) (a : id.now ≡ codes "a") where
  -- line 0 holds it
  holder_is_found : AreHolders ((id, 0) ∷ []) (Alloc (codes "a") 8 4 ∷ [])
  unfolding holder
  holder_is_found other = rw a (go (bytes_eq other (codes "a")))
    where
      go : (b : Bool) → cond {A = Option ℕ} b (Some 0) None ≡ option_or None (when (b && true) 0)
      go true = refl
      go false = refl

  -- nobody does once it is freed
  not_once_freed : AreHolders ((id, 0) ∷ []) (Alloc (codes "a") 8 4 ∷ Free (codes "a") ∷ []) → ⊥
  unfolding holder
  not_once_freed h = let e = rw a at (h (codes "a")) in absurd cc

  -- of the lines 5 and 6 the second one frees it
  free_is_found : AreFrees ((id, 6) ∷ []) 5 (Alloc (codes "b") 8 4 ∷ Free (codes "a") ∷ [])
  free_is_found other = rw a (go (bytes_eq other (codes "a")))
    where
      -- only the second one frees anything
      frees_it : Bool → Event → Bool
      frees_it b (Alloc i s l) = false
      frees_it b (Free i) = b

      go : (b : Bool) → cond {A = Option ℕ} b (Some 6) None
          ≡ option_map (λ k. 5 + k) (position (frees_it b) (Alloc (codes "b") 8 4 ∷ Free (codes "a") ∷ []))
      go true = refl
      go false = refl

  not_at_the_first : AreFrees ((id, 5) ∷ []) 5 (Alloc (codes "b") 8 4 ∷ Free (codes "a") ∷ []) → ⊥
  not_at_the_first h = let e : 5 ≡ 6 = same_some (rw a at (h (codes "a"))) in omega (arith, e)

  -- b is freed too
  not_all_are_found : AreFrees ((id, 6) ∷ []) 5 (Free (codes "b") ∷ Free (codes "a") ∷ []) → ⊥
  not_all_are_found h = let e = rw a at (h (codes "b")) in absurd cc
