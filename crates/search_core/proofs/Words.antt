-- The words and lemmas of the crates below that most proofs cite, passed on from one place. Declares nothing.
pub use Rattle.canonical_order.proofs.Entries.{in_range}
pub use Rattle.canonical_order.proofs.LevelLemmas.{level_inside}
pub use Rattle.canonical_order.specs.Claims.{HasBuffer, entry_of}
pub use Rattle.canonical_order.specs.Levels.{AreLevels}
pub use Rattle.canonical_order.specs.Stands.{Stands}
pub use Rattle.dsa_model.specs.Buffer.{IsBuffer}
pub use Rattle.dsa_search_laws.proofs.Claims.{claim-child, number_of-map}
pub use Rattle.dsa_search_laws.proofs.PartLists.{part_is_one}
pub use Rattle.dsa_search_laws.proofs.Parts.{buffers_of-whole, claim_of_part, in_whole, searched_is_layout}
pub use Rattle.dsa_search_laws.proofs.Placing.{in_child}
pub use Rattle.dsa_search_laws.proofs.Uncut.{least_is_first, part_of_first}
pub use Rattle.dsa_terms.proofs.Examples.{lifted, low, plain, raised, small_below}
pub use Rattle.dsa_terms.proofs.Lists.{into_map, same_some, some_answer}
pub use Rattle.dsa_terms.proofs.NumberTests.{apart, is_at_most, same, same_or_not}
pub use Rattle.dsa_terms.proofs.Places.{in_at}
pub use Rattle.dsa_terms.specs.Buffers.{Instance, IsInstance, IsLive}
unfoldable pub use Rattle.dsa_terms.specs.Buffers.{buffer, do_share, floor, have_same_moments, is_live, some_before}
pub use Rattle.dsa_terms.specs.Claims.{Claim, Covers, Entry, IsClaim, IsIn, IsWhole, number_of}
unfoldable pub use Rattle.dsa_terms.specs.Claims.{child, step, up}
pub use Rattle.dsa_terms.specs.Lean.{IsLeanLine}
pub use Rattle.dsa_terms.specs.Logs.{IsAccepted, IsLegal, Line, Log, Over, claim_of}
unfoldable pub use Rattle.dsa_terms.specs.Logs.{ends_below, is_stacked, is_twin, rounded, rounding}
pub use Rattle.dsa_terms.specs.Parts.{first_of_all, join, offsets_of, whole}
unfoldable pub use Rattle.dsa_terms.specs.Parts.{are_parted, are_uncut, is_cut, part_of, parts, searched, whole_work}
pub use Rattle.dsa_terms.specs.Search.{choices, first_of, first_some, not_excluded, seated}
unfoldable pub use Rattle.dsa_terms.specs.Search.{comes_before, first, is_tall, work}
pub use Rattle.line_index.proofs.Finding.{next_of}
pub use Rattle.line_index.proofs.WatchLemmas.{noted_more, raised_trans, watched_more}
pub use Rattle.line_index.specs.Covered.{IsCoveredBy}
pub use Rattle.line_index.specs.Watches.{AreNoted, AreRaised, AreWatched, LineWatches}
pub use Rattle.refute_log.specs.Logs.{OpenLog, ended}
pub use Rattle.skyline.specs.Skies.{Sky, last_claim}
