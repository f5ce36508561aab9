use Rattle.std.proofs.Common.{◌≡◌, ◌^◌, ◌<◌, take, true}
use Rattle.std.specs.List.{list_all}
use Rattle.std.specs.Str.Parse.{digits_value}
use Rattle.log_text.specs.Digits.{is_digit}
use Rattle.log_text.proofs.split.short_number.Given as goal

abbrev pub invariant-loop-place : goal.invariant-loop-place
invariant-loop-place l = (list_all is_digit (take l.place l.bytes) ≡ true)
    × ((l.value ≡ digits_value 10 (take l.place l.bytes)) × (l.value < 10 ^ l.place))
