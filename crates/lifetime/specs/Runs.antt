-- Runs of moments in which the same buffers are live.
use Rattle.std.specs.Prelude.{◌≡◌, ◌≢◌, ℕ, zero, suc, ◌<◌, ◌↔◌, Bool, false, List, [], length, map}
use Rattle.std.specs.List.{filter}
use Rattle.dsa_terms.specs.Buffers.{Buffer, Instance, buffer, is_live}
use Rattle.dsa_terms.specs.Claims.{IsIn, Rises}
use Rattle.dsa_terms.specs.Parts.{numbers}
use Rattle.lifetime.specs.SectionList.{Section, SectionList, count_of, live_at, start_of}

-- the buffer is live at the moment before t, where there is one
unfoldable pub was_live : Buffer → ℕ → Bool
was_live b zero = false
was_live b (suc t) = is_live b t

-- the buffers that are live at the moment before t, in rising order
unfoldable pub live_before : Instance → ℕ → List ℕ
live_before I t = filter (λ b. was_live (buffer I b) t) (numbers (length I))

-- a run begins at t: some buffer is live at t, and not the same ones as at the moment before
pub record BeginsRun (I : Instance) (t : ℕ) : Type 0 where
  pub something : live_at I t ≢ []
  pub changed : live_at I t ≢ live_before I t

-- the moments of the sections
abbrev pub starts_of : List Section → List ℕ
starts_of sections = map (λ (x : Section). x.start) sections

-- the sections start at the moments at which runs begin, in order, and each has what is live at its start
pub record ArePlainRuns (I : Instance) (sections : List Section) : Type 0 where
  pub each : (x : Section) → IsIn x sections → x.members ≡ live_at I x.start
  pub rise : Rises (starts_of sections)
  pub runs : (t : ℕ) → IsIn t (starts_of sections) ↔ BeginsRun I t

-- each section starts where a run begins
abbrev pub AreRuns : Instance → SectionList → Type 0
AreRuns I S = (s : ℕ) → s < count_of S → BeginsRun I (start_of S s)
