-- The names of a request: they are of its files, and differ from each other.
use Rattle.std.proofs.Common.{◌≡◌, ◌≢◌, Bool, true, false, List, [], ◌∷◌, Option, None, Some, Ok, Err, bytes_eq, refl, subst}
use Rattle.std.specs.Option.{option_map_or}
use Rattle.std.proofs.lemmas.Slice.Eq.{bytes_eq-Decides}
use Rattle.dsa_terms.specs.Firsts.{when, first_fault}
use Rattle.dsa_terms.proofs.Moments.{or_false}
use Rattle.command_words.specs.Options.{Word}
use Rattle.command_words.specs.Forms.{verb_of}
use Rattle.command_words.specs.Pairs.{Pair, has_equal, name_in, pairs_of}
use Rattle.command_words.specs.Requests.{Request, names_of, request_fault, request_of, request_or_fault}
use Rattle.command_words.specs.declared.verb.Verb.{Verb}
use Rattle.command_words.specs.declared.verb.Verb.TheVariants as verb
use Rattle.command_words.specs.declared.fault.UsageFault.{UsageFault}
use Rattle.command_words.specs.declared.fault.UsageFault.TheVariants as fault
use Rattle.command_words.specs.declared.role.Role.TheVariants as role

-- ---- names that differ
-- no fault comes before a request
no_fault : (o : Option UsageFault) (a r : Request) → option_map_or Err o (Ok a) ≡ Ok r → (o ≡ None) × (a ≡ r)
no_fault None a r is = (refl, cc)
no_fault (Some f) a r is = absurd cc

-- where none of three comes, the test of the last does not hold
not_last : (p m : Option UsageFault) (b : Bool) (f : UsageFault) → first_fault (p ∷ m ∷ when b f ∷ []) ≡ None →
    b ≡ false
not_last (Some p) m b f is = absurd cc
not_last None (Some m) b f is = absurd cc
not_last None None true f is = absurd cc
not_last None None false f is = refl

with_verb : (o : Option Verb) (pairs : List Pair) (r : Request) →
    option_map_or (λ v. request_or_fault (record { verb = v; pairs = pairs })) o (Err fault.UnknownCommand) ≡ Ok r →
    has_equal (names_of r) ≡ false
with_verb None pairs r is = absurd cc
with_verb (Some v) pairs r is =
    let a : Request = record { verb = v; pairs = pairs } in
    let parts = no_fault (request_fault a) a r is in
    subst (λ (x : Request). has_equal (names_of x) ≡ false) parts.1
    (not_last _ _ (has_equal (names_of a)) fault.SameName parts.0)

-- no two files of a request have equal names
pub names_differ : (words : List Word) (r : Request) → request_of words ≡ Ok r → has_equal (names_of r) ≡ false
names_differ [] r is = absurd cc
names_differ (word ∷ words) r is = with_verb (verb_of word) (pairs_of words) r is

last_two : (input output log : Word) → has_equal (input ∷ output ∷ log ∷ []) ≡ false → output ≢ log
last_two input output log is same =
    let rest = (or_false _ (has_equal (output ∷ log ∷ [])) is).1 in
    let one = (or_false (bytes_eq output log) false (or_false _ (has_equal (log ∷ [])) rest).0).0 in
    let other = (bytes_eq-Decides output log).1 same in
    cc

-- the output and the log of a command that writes both have different names
pub solve_apart : (words : List Word) (pairs : List Pair) →
    request_of words ≡ Ok (record { verb = verb.Solve; pairs = pairs }) →
    name_in pairs role.Output ≢ name_in pairs role.Log
solve_apart words pairs is = last_two (name_in pairs role.Input) (name_in pairs role.Output)
    (name_in pairs role.Log)
    (names_differ words (record { verb = verb.Solve; pairs = pairs }) is)

pub least_apart : (words : List Word) (pairs : List Pair) →
    request_of words ≡ Ok (record { verb = verb.Least; pairs = pairs }) →
    name_in pairs role.Output ≢ name_in pairs role.Log
least_apart words pairs is = last_two (name_in pairs role.Input) (name_in pairs role.Output)
    (name_in pairs role.Log)
    (names_differ words (record { verb = verb.Least; pairs = pairs }) is)

pub pack_apart : (words : List Word) (pairs : List Pair) →
    request_of words ≡ Ok (record { verb = verb.Pack; pairs = pairs }) →
    name_in pairs role.Output ≢ name_in pairs role.Log
pack_apart words pairs is = last_two (name_in pairs role.Input) (name_in pairs role.Output)
    (name_in pairs role.Log)
    (names_differ words (record { verb = verb.Pack; pairs = pairs }) is)
