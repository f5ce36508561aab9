-- What is printed of the reasons why a line is not legal.
use Rattle.std.proofs.Common.{◌≡◌, codes, refl}
use Rattle.std.specs.Fmt.{digits}
use Rattle.refute_log.specs.ReasonTexts.{reason_text}
use Rattle.refute_log.specs.declared.reason.Reason.TheVariants as reason

empty_claim : reason_text reason.EmptyClaim ≡ codes "empty claim"
empty_claim = refl

buffer_range : reason_text (reason.BufferRange 9) ≡ codes "buffer range 9"
unfolding digits
buffer_range = refl

not_over : reason_text reason.NotOver ≡ codes "not over"
not_over = refl

not_covered : reason_text (reason.NotCovered 12) ≡ codes "not covered 12"
unfolding digits
not_covered = refl

not_twin : reason_text (reason.NotTwin 2) ≡ codes "not twin 2"
unfolding digits
not_twin = refl
