use Rattle.std.proofs.Common.{◌≡◌, length, map, string_bytes}
use Rattle.std.specs.List.{filter_map}
use Rattle.command_words.specs.Forms.{file_of, form_of}
use Rattle.command_words.specs.Pairs.{pairs_of, has_equal, name_in}
use Rattle.command_words.proofs.names.has_same_name.Given as goal

-- two of all names are equal where two of those that are left are
abbrev pub invariant-loop-used : goal.invariant-loop-used
invariant-loop-used l =
    let pairs = pairs_of (map string_bytes l.words) in
    has_equal (map (name_in pairs) (filter_map file_of (form_of l.fn.verb).needed))
    ≡ has_equal (map (name_in pairs) (filter_map file_of l.rest))

abbrev pub decreases-loop-used : goal.decreases-loop-used
decreases-loop-used l = length l.rest
