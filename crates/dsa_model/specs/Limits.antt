-- The greatest numbers.
use Rattle.std.specs.Prelude.{ℕ, ◌^◌, ◌-◌}

-- the greatest capacity, offset and bound, and the greatest number of a command or of a log, times aside
abbrev pub number_limit : ℕ
number_limit = 2 ^ 60

-- the greatest time, and the greatest number of an instance file
abbrev pub time_limit : ℕ
time_limit = 2 ^ 62 - 1

-- the greatest number of bytes of a file that is read, but of a log's
abbrev pub file_limit : ℕ
file_limit = 2 ^ 26
