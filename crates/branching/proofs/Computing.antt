-- What is opened where a fact computes a search: `unfolding computing_first` opens all that its own line names.
use Rattle.std.proofs.Common.{ℕ}
use Rattle.branching.proofs.Words.{buffer, do_share, have_same_moments, is_live, some_before, child, step, up, ends_below, is_twin, are_parted, are_uncut, is_cut, is_leader, part_of, parts, searched, comes_before, first, is_tall, work}
use Rattle.dsa_terms.specs.Plans.{layout_height}
use Rattle.branching.specs.Trying.{through}

-- the first layout of a claim
unfoldable pub computing_first : ℕ
unfolding first is_tall comes_before ends_below is_twin have_same_moments child step do_share some_before is_live up
    buffer
computing_first = 0

-- how many claims a search looks at
unfoldable pub computing_work : ℕ
unfolding computing_first work through
computing_work = 0

-- the layout of all parts, and its height
unfoldable pub computing_searched : ℕ
unfolding computing_first searched parts part_of is_leader are_uncut are_parted is_cut layout_height
computing_searched = 0
