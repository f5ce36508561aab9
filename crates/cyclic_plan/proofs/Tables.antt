-- What a table gives that has no fault: rows within one period, and the instance that has just their layouts.
use Rattle.std.proofs.Common.{◌≡◌, ◌≤◌, ◌^◌, ◌∙◌, ap, ℕ, ◌+◌, ◌↔◌, inl, inr, not, nat_le, nat_lt, List, [], ◌∷◌, map, Option, None, Some, Result, Ok, Err, option_map, refl, sym, subst}
use Rattle.std.specs.List.{All}
use Rattle.std.specs.Option.{option_map_or}
use Rattle.dsa_terms.specs.Buffers.{Buffer, Instance}
use Rattle.dsa_terms.specs.Claims.{IsIn}
use Rattle.dsa_terms.specs.Firsts.{when}
use Rattle.dsa_terms.specs.Layouts.{IsLayout}
use Rattle.dsa_terms.proofs.Lists.{from_map}
use Rattle.dsa_terms.proofs.Moments.{and_true}
use Rattle.dsa_terms.proofs.NumberTests.{at_most, less}
use Rattle.dsa_terms.proofs.Places.{all_from_in}
use Rattle.dsa_model.specs.Buffer.{buffer_fault}
use Rattle.dsa_model.proofs.Faults.{map_none, neither, not_so}
use Rattle.csv_instance.specs.Changed.{changed_text}
use Rattle.csv_instance.specs.Records.{Record}
use Rattle.csv_instance.specs.declared.fault.InstanceFault.{InstanceFault}
use Rattle.csv_instance.proofs.Basics.{not_false}
use Rattle.csv_instance.proofs.IdLemmas.{all_none}
use Rattle.cyclic_plan.specs.Cycles.{IsCycleLayout, IsInPeriod, unrolled}
use Rattle.csv_instance.specs.Parse.{parse}
use Rattle.csv_instance.specs.Records.{table_of}
use Rattle.csv_instance.specs.Rows.{parse_rows, values_of}
use Rattle.csv_instance.proofs.ChangedBack.{changed_parse}
use Rattle.csv_instance.proofs.RowLemmas.{rows-parse, values-are}
use Rattle.cyclic_plan.proofs.Wraps.{wrapped_values, wraps_are_moments}
use Rattle.cyclic_plan.specs.Unrolled.{cycle_row_fault, cycle_rows_fault, is_in_period, IsUnrolled, unrolled_of, unrolled_rows, unrolled_text, wraps_from}
use Rattle.cyclic_plan.specs.declared.fault.CycleFault.{CycleFault}
use Rattle.cyclic_plan.specs.declared.fault.CycleFault.TheVariants as fault
use Rattle.cyclic_plan.proofs.Rounds.{cycle_from_layout, layout_from_cycle}

row_good : (P number : ℕ) (b : Buffer) → cycle_row_fault P number b ≡ None →
    IsInPeriod P b × (buffer_fault (unrolled P b) ≡ None)
row_good P number b h =
    let all = all_none (
    when (not (is_in_period P b)) (fault.Outside number)
    ∷ option_map (fault.BadBuffer number) (buffer_fault (unrolled P b))
    ∷ []) h in
    let i = and_true (nat_lt b.lower P) (nat_le b.upper P)
    (not_false (is_in_period P b) (not_so (not (is_in_period P b)) (fault.Outside number) all.0)) in (
      (less b.lower P i.0, at_most b.upper P i.1),
      map_none (fault.BadBuffer number) (buffer_fault (unrolled P b)) all.1.0,
    )

rows_good : (P number : ℕ) (rows : List Buffer) → cycle_rows_fault P number rows ≡ None → (b : Buffer) → IsIn b rows →
    IsInPeriod P b × (buffer_fault (unrolled P b) ≡ None)
rows_good P number [] h b i = absurd i
rows_good P number (r ∷ rs) h b (inl e) =
    let here = neither (cycle_row_fault P number r) (cycle_rows_fault P (number + 1) rs) h in
    subst (λ (x : Buffer). IsInPeriod P x × (buffer_fault (unrolled P x) ≡ None)) (sym e) (row_good P number r here.0)
rows_good P number (r ∷ rs) h b (inr i) =
    let here = neither (cycle_row_fault P number r) (cycle_rows_fault P (number + 1) rs) h in
    rows_good P (number + 1) rs here.1 b i

-- the text of such a table parses as the instance
text_parses : (P : ℕ) (table : List Record) (rows : List Buffer) → P ≤ 2 ^ 60 → parse_rows table ≡ Ok rows →
    cycle_rows_fault P 0 rows ≡ None → parse (table_of (unrolled_text P table)) ≡ Ok (map (unrolled P) rows)
unfolding unrolled_text
text_parses P table rows le read good =
    let is : values_of table ≡ rows = values-are table rows read in
    let all : parse_rows table ≡ Ok (values_of table) = rw is read in
    let within : (b : Buffer) → IsIn b (values_of table) → IsInPeriod P b =
    (λ b i. (rows_good P 0 rows good b (rw is at i)).0) in
    let says = changed_parse table (wraps_from P 0 (values_of table)) all
    (wraps_are_moments P (values_of table) le within)
    ∙ ap Ok (wrapped_values P (values_of table) ∙ ap (map (unrolled P)) is) in
    rows-parse (table_of (changed_text table (wraps_from P 0 (values_of table)))) (map (unrolled P) rows) says
    (λ b i. let r = from_map (unrolled P) rows b i in
    subst (λ (x : Buffer). buffer_fault x ≡ None) (sym r.2) (rows_good P 0 rows good r.0 r.1).1)

is_unrolled : (P : ℕ) (table : List Record) (I : Instance) (rows : List Buffer) → P ≤ 2 ^ 60 →
    parse_rows table ≡ Ok rows → cycle_rows_fault P 0 rows ≡ None → map (unrolled P) rows ≡ I → IsUnrolled P table I
is_unrolled P table I rows le read good e =
    let within : All (IsInPeriod P) rows =
    all_from_in (IsInPeriod P) rows (λ b i. (rows_good P 0 rows good b i).0) in
    record {
      rows = rows;
      read = read;
      its_buffers = e;
      sound = all_from_in (λ b. buffer_fault b ≡ None) I (λ b i.
          let r = from_map (unrolled P) rows b (subst (λ (J : Instance). IsIn b J) (sym e) i) in
          subst (λ (x : Buffer). buffer_fault x ≡ None) (sym r.2) (rows_good P 0 rows good r.0 r.1).1);
      parsed = text_parses P table rows le read good ∙ ap Ok e;
      layouts = λ C offsets. subst (λ (J : Instance). IsLayout J C offsets ↔ IsCycleLayout P C rows offsets) e
          (cycle_from_layout P C rows offsets within, layout_from_cycle P C rows offsets within);
    }

pub unrolled_gives : (P : ℕ) (table : List Record) (I : Instance) → P ≤ 2 ^ 60 → unrolled_of P table ≡ Ok I →
    IsUnrolled P table I
unfolding unrolled_of
unrolled_gives P table I le h = from_read (parse_rows table) refl h
  where
    from_rows : (rows : List Buffer) → parse_rows table ≡ Ok rows → (o : Option CycleFault) →
        cycle_rows_fault P 0 rows ≡ o → option_map_or Err o (Ok (map (unrolled P) rows)) ≡ Ok I → IsUnrolled P table I
    from_rows rows read None good e = is_unrolled P table I rows le read good
        (let q : map (unrolled P) rows ≡ I = cc in q)
    from_rows rows read (Some f) good e = absurd cc

    from_read : (r : Result (List Buffer) InstanceFault) → parse_rows table ≡ r → unrolled_rows P r ≡ Ok I →
        IsUnrolled P table I
    from_read (Err f) read e = absurd cc
    from_read (Ok rows) read e = from_rows rows read (cycle_rows_fault P 0 rows) refl e

-- ---- what a table gives
pub refused_file : (P : ℕ) (table : List Record) (f : InstanceFault) → parse_rows table ≡ Err f →
    unrolled_of P table ≡ Err (fault.Instance f)
unfolding unrolled_of
refused_file P table f e = rw e refl

pub refused_row : (P : ℕ) (table : List Record) (f : CycleFault) → parse_rows table ≡ Ok (values_of table) →
    cycle_rows_fault P 0 (values_of table) ≡ Some f → unrolled_of P table ≡ Err f
unfolding unrolled_of
refused_row P table f e bad = rw (e, bad) refl

pub accepted_rows : (P : ℕ) (table : List Record) → parse_rows table ≡ Ok (values_of table) →
    cycle_rows_fault P 0 (values_of table) ≡ None → unrolled_of P table ≡ Ok (map (unrolled P) (values_of table))
unfolding unrolled_of
accepted_rows P table e good = rw (e, good) refl

pub has_text : (P : ℕ) (table : List Record) (text : List ℕ) →
    text ≡ changed_text table (wraps_from P 0 (values_of table)) → text ≡ unrolled_text P table
unfolding unrolled_text
has_text P table text e = e

-- a table without a fault gives one instance, of its rows
same_ok : {T E : Type 0} {x y : T} (r : Result T E) → r ≡ Ok x → r ≡ Ok y → x ≡ y
same_ok r e h = cc

pub gives_layouts : (P : ℕ) (table : List Record) (I J : Instance) (rows : List Buffer) → P ≤ 2 ^ 60 →
    unrolled_of P table ≡ Ok I → parse_rows table ≡ Ok rows → parse (table_of (unrolled_text P table)) ≡ Ok J →
    (C : ℕ) (o : List ℕ) → IsLayout J C o ↔ IsCycleLayout P C rows o
gives_layouts P table I J rows le given read parsed =
    let all = unrolled_gives P table I le given in
    let same : I ≡ J = same_ok (parse (table_of (unrolled_text P table))) all.parsed parsed in
    let same_rows : all.rows ≡ rows = same_ok (parse_rows table) all.read read in
    λ C o. subst (λ (K : Instance). IsLayout K C o ↔ IsCycleLayout P C rows o) same
    (subst (λ (rs : List Buffer). IsLayout I C o ↔ IsCycleLayout P C rs o) same_rows (all.layouts C o))
