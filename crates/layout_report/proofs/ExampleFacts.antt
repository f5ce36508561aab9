-- Small facts, and what the report says of them.
use Rattle.std.proofs.Common.{◌≡◌, Some, None, codes, refl}
use Rattle.std.specs.Fmt.{digits}
use Rattle.layout_report.specs.declared.facts.Facts.{Facts}
use Rattle.layout_report.specs.Facts.{bounds_text, bound_lines, two_numbers_text, peak_lines, peak_text}

two_numbers : two_numbers_text 4 10 ≡ codes "4 10"
unfolding digits
two_numbers = refl

a_peak : peak_text (Some (2, 65)) ≡ codes "2 65"
unfolding digits
a_peak = refl

no_peak : peak_text None ≡ codes "none"
no_peak = refl

first_lines : peak_lines 2 (codes "2 65") ≡ codes "buffers 2\npeak 2 65\n"
unfolding digits
first_lines = refl

last_lines : bound_lines 1 (codes "65 1") 66 ≡ codes "parts 1\nbound 65 1\nbest 66\n"
unfolding digits
last_lines = refl

-- two buffers that take 65 bytes at moment 2, and one more in the best start
abbrev two_facts : Facts
two_facts = record { buffers = 2; peak = Some (2, 65); parts = 1; bound = 65; modulus = 1; best = 66 }

two_buffers : bounds_text two_facts ≡ codes "buffers 2\npeak 2 65\nparts 1\nbound 65 1\nbest 66\n"
unfolding digits
two_buffers = refl

abbrev no_facts : Facts
no_facts = record { buffers = 0; peak = None; parts = 0; bound = 0; modulus = 1; best = 0 }

no_buffers : bounds_text no_facts ≡ codes "buffers 0\npeak none\nparts 0\nbound 0 1\nbest 0\n"
unfolding digits
no_buffers = refl
