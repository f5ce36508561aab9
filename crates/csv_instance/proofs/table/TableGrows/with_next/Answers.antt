use Rattle.std.proofs.Common.{◌≡◌, ◌++◌, ◌∷◌, ◌+◌, ◌∙◌, ℕ, [], List, None, Some, Result, Ok, Err, length, length-append, sym, ap, subst, arith}
use Rattle.csv.specs.Records.{Row}
use Rattle.csv.specs.declared.error.Error.{Error}
use Rattle.dsa_terms.specs.Buffers.{Buffer, buffer}
use Rattle.dsa_model.specs.Buffer.{buffer_fault}
use Rattle.dsa_model.specs.declared.buffer_fault.BufferFault.{BufferFault}
use Rattle.csv_instance.specs.Gives.{GaveRecord}
use Rattle.csv_instance.specs.Parse.{parse}
use Rattle.csv_instance.specs.Records.{Record}
use Rattle.csv_instance.specs.Rows.{parse_rows, values_of}
use Rattle.csv_instance.specs.declared.fault.InstanceFault.{InstanceFault}
use Rattle.csv_instance.specs.declared.fault.InstanceFault.TheVariants as fault
use Rattle.csv_instance.proofs.FailLemmas.{IfFault-map}
use Rattle.csv_instance.proofs.GivesLemmas.{gave-map, gave-some}
use Rattle.csv_instance.proofs.OffsetFacts.{buffers-count}
use Rattle.csv_instance.proofs.TableGrowth.{no_buffer_more, one_more, unread_more}
use Rattle.csv_instance.proofs.table.TableGrows.with_next.Goals as goal

-- there is a row more than buffers so far
grown : (row : Result Row Error) (table t : List Record) (I : List Buffer) → parse table ≡ Ok I →
    GaveRecord row (λ fields. t ≡ table ++ fields ∷ []) → length t ≡ length I + 2
grown row table t I e h =
    let (fields, is) = gave-some row h in
    let count = buffers-count table I e in
    let more = length-append table (fields ∷ []) in
    let all = ap length is in
    omega (arith, count, more, all)

-- which tells of a buffer
good : (row : Result Row Error) (table t : List Record) (I J : List Buffer) (last : ℕ) (made : Buffer) →
    parse table ≡ Ok I → GaveRecord row (λ fields. t ≡ table ++ fields ∷ []) → last ≡ length I →
    parse_rows t ≡ Ok (values_of t) → buffer_fault (buffer (values_of t) last) ≡ None →
    made ≡ buffer (values_of t) last → J ≡ I ++ made ∷ [] → parse t ≡ Ok J
good row table t I J last made e h at r b m j =
    let (fields, is) = gave-some row h in
    let read = subst (λ (u : List Record). parse_rows u ≡ Ok (values_of u)) is r in
    let told : buffer (values_of t) last ≡ buffer (values_of (table ++ fields ∷ [])) (length I) =
    ap (λ (k : ℕ). buffer (values_of t) k) at ∙ ap (λ (u : List Record). buffer (values_of u) (length I)) is in
    ap parse is
    ∙ one_more table fields I (values_of (table ++ fields ∷ [])) e read
    (subst (λ (x : Buffer). buffer_fault x ≡ None) told b)
    ∙ ap Ok (ap (λ (x : Buffer). I ++ x ∷ []) (sym (m ∙ told)) ∙ sym j)

-- or has a fault
bad : (row : Result Row Error) (table t : List Record) (I : List Buffer) (last : ℕ) (f : BufferFault) →
    parse table ≡ Ok I → GaveRecord row (λ fields. t ≡ table ++ fields ∷ []) → last ≡ length I →
    parse_rows t ≡ Ok (values_of t) → buffer_fault (buffer (values_of t) last) ≡ Some f →
    GaveRecord row (λ fields. (rest : List Record) → parse (table ++ fields ∷ rest) ≡ Err (fault.BadBuffer last f))
bad row table t I last f e h at r b = gave-map row
    (λ fields is rest.
    let read = subst (λ (u : List Record). parse_rows u ≡ Ok (values_of u)) is r in
    let told : buffer (values_of t) last ≡ buffer (values_of (table ++ fields ∷ [])) (length I) =
    ap (λ (k : ℕ). buffer (values_of t) k) at ∙ ap (λ (u : List Record). buffer (values_of u) (length I)) is in
    subst (λ (k : ℕ). parse (table ++ fields ∷ rest) ≡ Err (fault.BadBuffer k f)) (sym at)
    (no_buffer_more table fields I (values_of (table ++ fields ∷ [])) f e read
    (subst (λ (x : Buffer). buffer_fault x ≡ Some f) told b) rest)) h

pub returns-in-Err : goal.returns-in-Err
returns-in-Err c =
    let rows = c.self.inside.rows in
    rw (← c.self.view_is)
    (IfFault-map (λ (f : InstanceFault). GaveRecord c.args.row
    (λ fields. (rest : List Record) → parse_rows (rows ++ fields ∷ rest) ≡ Err f))
    (λ (f : InstanceFault). GaveRecord c.args.row
    (λ fields. (rest : List Record) → parse (rows ++ fields ∷ rest) ≡ Err f)) c.in-Err.failure
    (λ f h. gave-map c.args.row
    (λ fields bad. unread_more rows fields c.self.inside.instance f c.self.invariant bad) h)
    c.in-Err.ensures)

pub overflow_sub-last : goal.overflow_sub-last
overflow_sub-last c =
    let all = grown c.args.row c.self.inside.rows c.in-Ok.rows c.self.inside.instance c.self.invariant
    c.in-Ok.ensures in
    omega (arith, all, c.count-last.ensures.value)

pub buffer-requires : goal.buffer-requires
buffer-requires c =
    let all = grown c.args.row c.self.inside.rows c.in-Ok.rows c.self.inside.instance c.self.invariant
    c.in-Ok.ensures in
    omega (arith, all, c.count-last.ensures.value)

pub returns-in-Err-Fault : goal.returns-in-Err-Fault
returns-in-Err-Fault c =
    let I = c.self.inside.instance in
    let all = grown c.args.row c.self.inside.rows c.in-Ok.rows I c.self.invariant c.in-Ok.ensures in
    rw (← c.self.view_is)
    (bad c.args.row c.self.inside.rows c.in-Ok.rows I _ c.in-Err-Fault.fault c.self.invariant c.in-Ok.ensures
    (omega (arith, all, c.count-last.ensures.value)) c.count-last.ensures.parsed
    (rw c.in-Err-Fault.field-0-is at c.in-Err-Fault.ensures))

pub push-requires : goal.push-requires
push-requires c =
    let all = grown c.args.row c.self.inside.rows c.in-Ok.rows c.self.inside.instance c.self.invariant
    c.in-Ok.ensures in
    omega (arith, all, c.count-last.ensures.value, c.count-last.ensures.limit)

pub invariant_of-result : goal.invariant_of-result
invariant_of-result c =
    let I = c.self.inside.instance in
    let all = grown c.args.row c.self.inside.rows c.in-Ok.rows I c.self.invariant c.in-Ok.ensures in
    good c.args.row c.self.inside.rows c.in-Ok.rows I c.push.new.self _ c.in-Ok-buffer.buffer c.self.invariant
    c.in-Ok.ensures (omega (arith, all, c.count-last.ensures.value)) c.count-last.ensures.parsed
    c.in-Ok-buffer.ensures.1.no_fault c.in-Ok-buffer.ensures.0 c.in-Ok-push.ensures.appended

pub returns-in-Ok-push : goal.returns-in-Ok-push
returns-in-Ok-push c = gave-map c.args.row
    (λ fields is. is ∙ ap (λ (t : List Record). t ++ fields ∷ []) c.self.view_is) c.in-Ok.ensures
