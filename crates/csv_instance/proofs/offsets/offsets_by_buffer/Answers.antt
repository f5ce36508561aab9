use Rattle.std.proofs.Common.{◌≡◌, ◌∙◌, ◌++◌, ◌∷◌, ◌+◌, [], List, ℕ, Option, None, Some, Vec, Global, ap, drop, length, map, option_map, sym, true, rules}
use Rattle.std.specs.Option.{option_copied}
use Rattle.std.specs.Result.{is_ok}
use Rattle.std.specs.Str.{bytes_eq}
use Rattle.indexmap.specs.IndexMap.{get_by}
use Rattle.csv_instance.specs.declared.fault.OffsetsFault.TheVariants as fault
use Rattle.csv_instance.proofs.FoundLemmas.{first-missing, map_from-place, put-some}
use Rattle.csv_instance.proofs.TableLemmas.{none_left}
use Rattle.csv_instance.proofs.offsets.offsets_by_buffer.Goals as goal

pub returns-in_default : goal.returns-in_default
returns-in_default c =
    let find : Vec ℕ Global → Option ℕ = λ id. get_by (λ k. bytes_eq id.items k.items) c.args.found.now in
    let none : find c.id-item.result ≡ None =
    rw c.as_slice.ensures.value at
    (sym c.get.ensures.value ∙ ap option_copied (none_left _ c.in_default.not-Some)) in
    let ids = c.as_slice-id-items.result.now in
    let next = map_from-place find ids c.loop-id.id-index c.id-item.result c.loop-id-test.true c.id-item.is in
    let left = c.loop-id.invariant.0 ∙ ap (λ (t : List (Option ℕ)). map Some c.loop-id.offsets.items ++ t)
    (next ∙ ap (λ (o : Option ℕ). o ∷ map find (drop (c.loop-id.id-index + 1) ids)) none) in
    let n : c.len.result ≡ length c.loop-id.offsets.items = search rules in
    rw (n, sym c.as_slice-id-items.ensures.keys)
    (ap (option_map fault.MissingId)
    (first-missing (map find ids) c.loop-id.offsets.items (map find (drop (c.loop-id.id-index + 1) ids)) left))

pub loop-id-preserved : goal.loop-id-preserved
loop-id-preserved c =
    let find : Vec ℕ Global → Option ℕ = λ id. get_by (λ k. bytes_eq id.items k.items) c.args.found.now in
    let value : find c.id-item.result ≡ Some c.in-Some.offset.now =
    rw c.as_slice.ensures.value at (sym c.get.ensures.value ∙ ap option_copied c.in-Some.is) in
    let ids = c.as_slice-id-items.result.now in
    let next = map_from-place find ids c.loop-id.id-index c.id-item.result c.loop-id-test.true c.id-item.is in
    let pushed : is_ok c.push.result ≡ true = search rules in
    let items : c.push.new.self.items ≡ c.loop-id.offsets.items ++ c.in-Some.offset.now ∷ [] =
    rw pushed at c.push.ensures.items in
    let left = c.loop-id.invariant.0 ∙ ap (λ (t : List (Option ℕ)). map Some c.loop-id.offsets.items ++ t)
    (next ∙ ap (λ (o : Option ℕ). o ∷ map find (drop (c.loop-id.id-index + 1) ids)) value) in (
      rw items (left ∙ put-some c.loop-id.offsets.items c.in-Some.offset.now
          (map find (drop (c.loop-id.id-index + 1) ids))),
      search rules,
    )
