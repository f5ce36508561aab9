-- The words and lemmas of the crates below that most proofs cite, passed on from one place. Declares nothing.
pub use Rattle.canonical_order.proofs.CoverLemmas.{covered_has, first_passes, from_child, none_passes_all}
pub use Rattle.canonical_order.proofs.Entries.{entry_in, is_entry}
pub use Rattle.canonical_order.proofs.LevelLemmas.{has_level, level_inside}
pub use Rattle.canonical_order.specs.Claims.{HasBuffer, IsBoundedBy, entry_of, least_buffer}
pub use Rattle.canonical_order.specs.Levels.{AreLevels}
pub use Rattle.canonical_order.specs.Stands.{Stands}
pub use Rattle.dsa_model.specs.Buffer.{IsBuffer}
pub use Rattle.dsa_search_laws.proofs.Claims.{rises-filter}
pub use Rattle.dsa_search_laws.proofs.Placing.{in_buffers, up_at_or_above}
pub use Rattle.dsa_terms.proofs.Examples.{small_below, two_of_four}
pub use Rattle.dsa_terms.proofs.Lists.{any_from, any_gives, from_append, from_filter, from_map, from_ordered_by}
pub use Rattle.dsa_terms.proofs.Lists.{into_filter, into_map, left_append, same_some, some_answer, true_or_false}
pub use Rattle.dsa_terms.proofs.Moments.{and_true, live_before, sound}
pub use Rattle.dsa_terms.proofs.NumberTests.{apart, below_or_from, is_at_most, is_below, less}
pub use Rattle.dsa_terms.proofs.NumberTests.{not_at_most, not_below}
pub use Rattle.dsa_terms.proofs.Places.{in_at}
pub use Rattle.dsa_terms.specs.Buffers.{Buffer, Instance, IsInstance, IsLive}
unfoldable pub use Rattle.dsa_terms.specs.Buffers.{buffer, do_share, have_same_moments, is_live, some_before}
pub use Rattle.dsa_terms.specs.Claims.{Claim, Covers, Entry, IsClaim, IsIn, IsRefuted, Rises, buffers_of}
unfoldable pub use Rattle.dsa_terms.specs.Claims.{child, step, up}
pub use Rattle.dsa_terms.specs.Lean.{IsLeanLine}
pub use Rattle.dsa_terms.specs.Logs.{Below, ByLine, Cases, Cite, IsLegal, IsLegalCite, Line, Over, Twin}
pub use Rattle.dsa_terms.specs.Logs.{claim_of, greatest}
unfoldable pub use Rattle.dsa_terms.specs.Logs.{ends_below, is_stacked, is_twin, rounded, rounding}
pub use Rattle.dsa_terms.specs.Parts.{numbers}
unfoldable pub use Rattle.dsa_terms.specs.Parts.{are_parted, are_uncut, is_cut, is_leader, part_of, parts, searched}
pub use Rattle.dsa_terms.specs.Search.{choices, not_excluded, seated}
unfoldable pub use Rattle.dsa_terms.specs.Search.{comes_before, first, is_tall, work}
pub use Rattle.lifetime.specs.SectionList.{AreSectionsOf, SectionList, count_of, members_of, start_of}
pub use Rattle.line_index.proofs.Finding.{next_of}
pub use Rattle.line_index.specs.Covered.{IsCoveredBy, NoneCovers}
pub use Rattle.refute_log.specs.Lines.{IsCiteWithin, cite_value, line_value}
pub use Rattle.refute_log.specs.Logs.{Belongs, OpenLog}
pub use Rattle.skyline.specs.Skies.{last_claim}
