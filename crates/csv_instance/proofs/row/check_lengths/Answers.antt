use Rattle.std.proofs.Common.{refl}
use Rattle.std.proofs.lemmas.Bool.{eq-eqb, le-ltb, lt-ltb, ne_eqb}
use Rattle.csv_instance.proofs.row.check_lengths.Goals as goal

pub returns-then-number-eq-BUFFER_LIMIT : goal.returns-then-number-eq-BUFFER_LIMIT
returns-then-number-eq-BUFFER_LIMIT c = rw c.if-number-eq-BUFFER_LIMIT.true refl

pub returns-then-fields-columns : goal.returns-then-fields-columns
returns-then-fields-columns c =
    rw (ne_eqb _ _ c.if-number-eq-BUFFER_LIMIT.false, ne_eqb _ _ c.if-fields-columns.true) refl

pub returns-then-id-eq0 : goal.returns-then-id-eq0
returns-then-id-eq0 c =
    rw (ne_eqb _ _ c.if-number-eq-BUFFER_LIMIT.false, eq-eqb _ _ c.if-fields-columns.false, c.if-id-eq0.true) refl

pub returns-then-id-gt-ID_LIMIT : goal.returns-then-id-gt-ID_LIMIT
returns-then-id-gt-ID_LIMIT c =
    rw (
      ne_eqb _ _ c.if-number-eq-BUFFER_LIMIT.false,
      eq-eqb _ _ c.if-fields-columns.false,
      ne_eqb _ _ c.if-id-eq0.false,
      lt-ltb _ _ c.if-id-gt-ID_LIMIT.true,
    ) refl

pub returns-else-id-gt-ID_LIMIT : goal.returns-else-id-gt-ID_LIMIT
returns-else-id-gt-ID_LIMIT c =
    rw (
      ne_eqb _ _ c.if-number-eq-BUFFER_LIMIT.false,
      eq-eqb _ _ c.if-fields-columns.false,
      ne_eqb _ _ c.if-id-eq0.false,
      le-ltb _ _ c.if-id-gt-ID_LIMIT.false,
    ) refl
