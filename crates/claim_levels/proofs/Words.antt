-- The words and lemmas of the crates below that most proofs cite, passed on from one place. Declares nothing.
pub use Rattle.canonical_order.proofs.CoverLemmas.{entry_of_child, from_child, in_child_by, length_within}
pub use Rattle.canonical_order.proofs.Entries.{entry_in, is_entry, up_limit}
pub use Rattle.canonical_order.proofs.LevelLemmas.{has_level, has_or_not, level_in_range, level_inside}
pub use Rattle.canonical_order.specs.Claims.{HasBuffer, IsBoundedBy, entry_of}
pub use Rattle.canonical_order.specs.Levels.{AreLevels, IsLevel}
pub use Rattle.canonical_order.specs.Stands.{Stands}
pub use Rattle.dsa_model.specs.Buffer.{IsBuffer, buffer_limit}
pub use Rattle.dsa_search_laws.proofs.Claims.{buffers_of-map, claim-child}
pub use Rattle.dsa_search_laws.proofs.Placing.{in_buffers}
pub use Rattle.dsa_terms.proofs.Examples.{small_below}
pub use Rattle.dsa_terms.proofs.Lists.{from_append, from_map, has_in, in_has, into_map, left_append}
pub use Rattle.dsa_terms.proofs.Lists.{right_append, true_or_false}
pub use Rattle.dsa_terms.proofs.Moments.{sound}
pub use Rattle.dsa_terms.proofs.NumberTests.{below_or_from, below_or_last, equal, less, same, same_or_not}
pub use Rattle.dsa_terms.proofs.Places.{in_at}
pub use Rattle.dsa_terms.specs.Buffers.{Buffer, Instance, IsInstance}
unfoldable pub use Rattle.dsa_terms.specs.Buffers.{buffer, do_share, is_live, some_before}
pub use Rattle.dsa_terms.specs.Claims.{Claim, Entry, IsClaim, IsIn, Rises, buffers_of, number_of}
unfoldable pub use Rattle.dsa_terms.specs.Claims.{child, step, up}
unfoldable pub use Rattle.dsa_terms.specs.Parts.{has}
pub use Rattle.lifetime.specs.SectionList.{AreSectionsOf, SectionList, members_of, sections_of}
pub use Rattle.line_index.proofs.Finding.{next_of}
pub use Rattle.skyline.specs.Skies.{last_claim}
