-- What a list of parts keeps, and where its buffers are.
use Rattle.std.proofs.Common.{◌≡◌, ℕ, zero, suc, ◌<◌, List, [], ◌∷◌, length, slice_index_or, map, ap, ◌∙◌, arith}
use Rattle.std.specs.List.{All}
use Rattle.dsa_model.specs.Lists.{items_of}
use Rattle.dsa_terms.proofs.Places.{all_from_in, in_at}
use Rattle.dsa_search_laws.proofs.PartLists.{part_in_range}
use Rattle.split_sections.specs.PartList.{AreInRange, IsPart}
use Rattle.std.specs.Global.{Vec}

pub part_at : (ps : List (List ℕ)) (k : ℕ) (p : List ℕ) → All IsPart ps → k < length ps → p ≡ slice_index_or ps k [] →
    IsPart p
part_at ps k p h lt e = rw e (h k [] lt)

pub in_range_at : (ps : List (List ℕ)) (k : ℕ) (p : List ℕ) → k < length ps → p ≡ slice_index_or ps k [] →
    AreInRange ps p
in_range_at ps k p lt e I same =
    all_from_in (λ b. b < length I) p
    (λ b i. part_in_range I p b (rw (← same, e) (in_at ps k [] lt)) i)

pub read_at : (vs : List (Vec ℕ)) (k : ℕ) (v : Vec ℕ) (r : List ℕ) → k < length (map items_of vs) →
    v ≡ slice_index_or vs k v → r ≡ v.items →
    r ≡ slice_index_or (map items_of vs) k []
read_at [] k v r lt e f = absurd (omega arith)
read_at (w ∷ ws) zero v r lt e f = f ∙ ap items_of e
read_at (w ∷ ws) (suc k) v r lt e f = read_at ws k v r (omega arith) e f
