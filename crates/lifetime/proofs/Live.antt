-- What is live at a moment.
use Rattle.std.proofs.Common.{◌≡◌, ◌≢◌, ℕ, suc, ◌<◌, ◌≤◌, false, List, [], ◌∷◌, length, filter, refl}
use Rattle.std.specs.List.{All}
use Rattle.dsa_terms.specs.Buffers.{Instance, IsLive, buffer, is_live, no_buffer}
use Rattle.dsa_terms.specs.Claims.{IsIn, Rises}
use Rattle.dsa_terms.specs.Parts.{numbers}
use Rattle.dsa_terms.proofs.Lists.{from_filter, into_filter}
use Rattle.dsa_terms.proofs.Ranges.{below, among}
use Rattle.dsa_model.specs.Buffer.{IsBuffer}
use Rattle.lifetime.specs.Runs.{live_before, was_live}
use Rattle.lifetime.specs.SectionList.{live_at}
use Rattle.lifetime.proofs.Lists.{rises-numbers}

pub into_live : (I : Instance) (t b : ℕ) → b < length I → IsLive (buffer I b) t → IsIn b (live_at I t)
unfolding live_at
into_live I t b lt h = into_filter (λ b. is_live (buffer I b) t) (numbers (length I)) b (among (length I) b lt) h

pub from_live : (I : Instance) (t b : ℕ) → IsIn b (live_at I t) → (b < length I) × IsLive (buffer I b) t
unfolding live_at
from_live I t b i = let r = from_filter (λ b. is_live (buffer I b) t) (numbers (length I)) b i in
    (below (length I) b r.0, r.1)

pub rises_live : (I : Instance) (t : ℕ) → Rises (live_at I t)
unfolding live_at
rises_live I t = rises-numbers (λ b. is_live (buffer I b) t) (length I)

pub before_zero : (I : Instance) → live_before I 0 ≡ []
unfolding live_before was_live
before_zero I = none (numbers (length I))
  where
    none : (bs : List ℕ) → filter (λ b. false) bs ≡ []
    none [] = refl
    none (b ∷ bs) = none bs

pub before_suc : (I : Instance) (t : ℕ) → live_before I (suc t) ≡ live_at I t
unfolding live_before live_at was_live
before_suc I t = refl

pub not_nil : {X : Type 0} (xs : List X) (x : X) → IsIn x xs → xs ≢ []
not_nil [] x i f = i
not_nil (y ∷ ys) x i f = absurd cc

pub size_positive : (I : Instance) (b : ℕ) → All IsBuffer I → b < length I → 1 ≤ (buffer I b).size
unfolding buffer
size_positive I b sound lt = (sound b no_buffer lt).sound.0
