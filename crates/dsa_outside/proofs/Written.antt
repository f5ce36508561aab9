-- What a loop that writes piece by piece has done.
use Rattle.std.proofs.Common.{◌≡◌, ℕ, ◌-◌, List, ◌++◌, Option, length, take, drop, sym, ap, ◌∙◌, subst, append_assoc, take-append-drop}
use Rattle.std.proofs.lemmas.List.{take_rest}
use Rattle.std.proofs.Math.Seq.{take-append_seam}
use Rattle.std.specs.Io.KnownBytes.{Appends, Keeps}
use Rattle.std.proofs.KnownBytes.{Appends-trans, Appends-kept}

-- the front of `all` has been written, and the rest is left
abbrev pub HasWritten : List ℕ → List ℕ → Option (List ℕ) → Option (List ℕ) → Type 0
HasWritten all rest old new = (done : List ℕ) × (all ≡ done ++ rest) × Appends old new done

moves_front : (all done rest : List ℕ) (n : ℕ) → all ≡ done ++ rest
    → all ≡ (done ++ take n rest) ++ take (length rest - n) (drop n rest)
moves_front all done rest n split =
    split ∙ ap (λ l. done ++ l) (sym (take-append-drop n rest)) ∙ sym (append_assoc done (take n rest) (drop n rest))
    ∙ ap (λ l. (done ++ take n rest) ++ l) (sym (take_rest rest n))

-- a call has taken n more bytes
pub takes_more : (all rest : List ℕ) (n : ℕ) (old mid new : Option (List ℕ)) → HasWritten all rest old mid
    → Appends mid new (take n rest) → HasWritten all (take (length rest - n) (drop n rest)) old new
takes_more all rest n old mid new (done, split, appended) more =
    (done ++ take n rest, moves_front all done rest n split, Appends-trans old mid new done (take n rest) appended more)

-- a call that failed has taken nothing
pub keeps : (all rest : List ℕ) (old mid new : Option (List ℕ)) → HasWritten all rest old mid → Keeps mid new
    → HasWritten all rest old new
keeps all rest old mid new (done, split, appended) kept = (done, split, Appends-kept old mid new done appended kept)

-- what has been written is the front of all the bytes
pub written_prefix : (all rest : List ℕ) (old new : Option (List ℕ)) → HasWritten all rest old new
    → (count : ℕ) × Appends old new (take count all)
written_prefix all rest old new (done, split, appended) =
    (length done, subst (Appends old new) (sym (ap (take (length done)) split ∙ take-append_seam done rest)) appended)
