-- What is found of all parts is right.
use Rattle.std.proofs.Common.{ℕ, All}
use Rattle.search_core.proofs.Words.{Instance, IsBuffer, searched_is_layout}
use Rattle.refute_log.specs.Decided.{IsRight}
use Rattle.refute_log.specs.declared.decided.Decided.{Decided}
use Rattle.refute_log.specs.declared.decided.Decided.TheVariants.{Layout, Refuted, Spent}
use Rattle.search_core.specs.Outcomes.{IsDecided}

pub is_right : (I : Instance) (C : ℕ) (d : Decided) → All IsBuffer I → IsDecided I C d → IsRight I C d
is_right I C (Layout offsets) s h = searched_is_layout I C offsets.items (λ k d h. (s k d h).sound) h
is_right I C (Refuted log) s h = (h.1.accepted, h.1.capacity)
is_right I C Spent s h = tt
