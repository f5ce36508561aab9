-- What the limits of an instance give to laws about instances.
use Rattle.std.specs.Prelude.{All, ℕ, length, ◌<◌}
use Rattle.dsa_terms.specs.Buffers.{Instance, IsInstance, buffer, no_buffer}
use Rattle.dsa_model.specs.Buffer.{IsBuffer}

-- each buffer of an instance has a size, an alignment and a lifetime
pub sound_instance : (I : Instance) → All IsBuffer I → IsInstance I
sound_instance I h k d lt = (h k d lt).sound

pub sound_buffer : (I : Instance) (b : ℕ) → All IsBuffer I → b < length I → IsBuffer (buffer I b)
unfolding buffer
sound_buffer I b h lt = h b no_buffer lt
