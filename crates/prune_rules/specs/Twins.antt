-- Buffers that are alike: one of them may be a twin of another one.
use Rattle.std.specs.Prelude.{◌==◌, ◌&&◌, Bool}
use Rattle.dsa_terms.specs.Buffers.{Buffer, have_same_moments}

-- the two have the same size, alignment and moments
abbrev pub are_alike : Buffer → Buffer → Bool
are_alike c b = (c.size == b.size) && ((c.alignment == b.alignment) && have_same_moments c b)
