use Rattle.std.proofs.Common.{◌≡◌, ◌++◌, Some, drop, length, map}
use Rattle.std.specs.Str.{bytes_eq}
use Rattle.indexmap.specs.IndexMap.{get_by}
use Rattle.csv_instance.proofs.offsets.offsets_by_buffer.Given as goal

-- the offsets so far, and what is found for the ids that are left
abbrev pub invariant-loop-id : goal.invariant-loop-id
invariant-loop-id l =
    (map (λ id. get_by (λ k. bytes_eq id.items k.items) l.found) l.id-items ≡ map Some l.offsets.items
    ++ map (λ id. get_by (λ k. bytes_eq id.items k.items) l.found) (drop l.id-index l.id-items))
    × (length l.offsets.items ≡ l.id-index)
