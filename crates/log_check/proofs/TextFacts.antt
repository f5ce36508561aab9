-- What is printed of the faults of a log.
use Rattle.std.proofs.Common.{◌≡◌, codes, refl}
use Rattle.std.specs.Fmt.{digits}
use Rattle.refute_log.specs.declared.reason.Reason.TheVariants as reason
use Rattle.log_check.specs.FaultTexts.{check_text}
use Rattle.log_check.specs.declared.fault.CheckFault.TheVariants as check

counts : check_text (check.WrongCount 3 4) ≡ codes "count 3 4"
unfolding digits
counts = refl

illegal : check_text (check.Illegal 6 reason.NotOver) ≡ codes "line 6 not over"
unfolding digits
illegal = refl

a_bound : check_text (check.EndNotWhole 6 2) ≡ codes "end 6 bound 2"
unfolding digits
a_bound = refl

illegal_line : check_text (check.Illegal 6 (reason.NotTwin 2)) ≡ codes "line 6 not twin 2"
unfolding digits
illegal_line = refl

end_range : check_text (check.EndRange 6) ≡ codes "end 6"
unfolding digits
end_range = refl
