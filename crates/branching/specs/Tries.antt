-- The choices of a claim, taken one after another.
use Rattle.std.specs.Prelude.{◌≡◌, ℕ, ◌+◌, ◌<◌, List, [], ◌∷◌, ◌++◌, length, drop, map, slice_index}
use Rattle.std.specs.Global.{Vec}
use Rattle.dsa_terms.specs.Buffers.{Instance}
use Rattle.dsa_terms.specs.Claims.{Claim, buffers_of}
use Rattle.dsa_terms.specs.Search.{choices, not_excluded}
use Rattle.canonical_order.specs.Claims.{entry_of}
use Rattle.branching.specs.declared.notes.Notes.{Notes}
use Rattle.branching.specs.declared.notes.Refuted.{Refuted}

-- the choices of a claim in order, the first ones of them with the lines by which they are refuted, and up to which
-- line it was asked whether one covers the claim
pub record Tried : Type 0 where
  pub order : List ℕ
  pub refuted : List Refuted
  pub asked : ℕ

-- none of these choices is refuted, and the first n lines were asked
abbrev pub untried : List ℕ → ℕ → Tried
untried order n = record { order = order; refuted = []; asked = n }

-- these choices, with what is noted of them
abbrev pub tried_by : List ℕ → Notes → Tried
tried_by order n = record { order = order; refuted = n.refuted.items; asked = n.asked }

-- a choice is left that is not refuted
abbrev pub IsLeft : Tried → Type 0
IsLeft f = length f.refuted < length f.order

-- the choices that are not refuted
abbrev pub rest_of : Tried → List ℕ
rest_of f = drop (length f.refuted) f.order

-- the first choice that is not refuted
abbrev pub chosen_of : Tried → ℕ
chosen_of f = slice_index f.order (length f.refuted)

-- the choices after the first one that is not refuted
abbrev pub later_of : Tried → List ℕ
later_of f = drop (length f.refuted + 1) f.order

-- the same choices, with the first that was not refuted noted as refuted by the line of that number
abbrev pub noted_by : Tried → ℕ → Tried
noted_by f k = record f { refuted = f.refuted ++ record { buffer = chosen_of f; line = k } ∷ [] }

-- the same choices, with the first n lines asked
abbrev pub asked_to : Tried → ℕ → Tried
asked_to f n = record f { asked = n }

-- ---- the choices of a claim
-- the choices of the claim in order
abbrev pub order_of : Instance → Claim → List ℕ
order_of I l = buffers_of (choices I (not_excluded I) l)

-- these are the choices of the claim in order
abbrev pub IsOrderOf : Instance → Claim → Vec ℕ → Type 0
IsOrderOf I l order = map (entry_of l) order.items ≡ choices I (not_excluded I) l

-- the tries of the claim that are noted so
abbrev pub tried_of : Instance → Claim → Notes → Tried
tried_of I l n = tried_by (order_of I l) n
