-- Files that a command reads or writes have names of its request.
use Rattle.std.proofs.Common.{◌≡◌, List, [], ◌∷◌, map, Option, None, Some, refl, ap, subst, inl, inr}
use Rattle.std.specs.List.{cons_option, filter_map}
use Rattle.dsa_terms.specs.Claims.{IsIn}
use Rattle.command_words.specs.Forms.{ReadsInstance, file_of, form_of, read_of, reads_of, write_of, writes_of}
use Rattle.command_words.specs.Pairs.{name_in}
use Rattle.command_words.specs.Requests.{Request, names_of}
use Rattle.command_words.specs.declared.form.Use.{Use}
use Rattle.command_words.specs.declared.form.Use.TheVariants.{Instance, Reads, Writes}
use Rattle.command_words.specs.declared.role.Role.{Role}
use Rattle.command_words.specs.declared.role.Role.TheVariants as role
use Rattle.command_words.specs.declared.verb.Verb.{Verb}
use Rattle.command_words.specs.declared.verb.Verb.TheVariants as verb

in_map : {X Y : Type 0} (f : X → Y) (x : X) (xs : List X) → IsIn x xs → IsIn (f x) (map f xs)
in_map f x [] is = absurd is
in_map f x (y ∷ xs) (inl same) = inl (ap f same)
in_map f x (y ∷ xs) (inr is) = inr (in_map f x xs is)

-- what one call gives of a list the other gives too
module _ {X Y : Type 0} (f g : X → Option Y) (y : Y) where
  in_either : (a b : Option Y) → ((z : Y) → a ≡ Some z → b ≡ Some z) → (fs gs : List Y) → (IsIn y fs → IsIn y gs) →
      IsIn y (cons_option a fs) → IsIn y (cons_option b gs)
  in_either None None more fs gs rest is = rest is
  in_either None (Some w) more fs gs rest is = inr (rest is)
  in_either (Some v) None more fs gs rest is = let same = more v refl in absurd cc
  in_either (Some v) (Some w) more fs gs rest (inl same) = inl (let e = more v refl in cc)
  in_either (Some v) (Some w) more fs gs rest (inr is) = inr (rest is)

  in_more : ((x : X) (z : Y) → f x ≡ Some z → g x ≡ Some z) → (xs : List X) → IsIn y (filter_map f xs) →
      IsIn y (filter_map g xs)
  in_more more [] is = absurd is
  in_more more (x ∷ xs) is = in_either (f x) (g x) (more x) (filter_map f xs) (filter_map g xs) (in_more more xs) is

read_is_file : (used : Use) (own : Role) → read_of used ≡ Some own → file_of used ≡ Some own
read_is_file Instance own is = is
read_is_file (Reads r) own is = is
read_is_file used own is = absurd cc

written_is_file : (used : Use) (own : Role) → write_of used ≡ Some own → file_of used ≡ Some own
written_is_file (Writes r) own is = is
written_is_file used own is = absurd cc

-- a file that the command reads has a name of the request
pub read_named : (r : Request) (own : Role) → IsIn own (reads_of r.verb) → IsIn (name_in r.pairs own) (names_of r)
read_named r own is = in_map (name_in r.pairs) own (filter_map file_of (form_of r.verb).needed)
    (in_more read_of file_of own read_is_file (form_of r.verb).needed is)

-- a file that the command writes has one too
pub write_named : (r : Request) (own : Role) → IsIn own (writes_of r.verb) → IsIn (name_in r.pairs own) (names_of r)
write_named r own is = in_map (name_in r.pairs) own (filter_map file_of (form_of r.verb).needed)
    (in_more write_of file_of own written_is_file (form_of r.verb).needed is)

-- an input that is read as an instance is read
read_among : (uses : List Use) → IsIn Instance uses → IsIn role.Input (filter_map read_of uses)
read_among [] is = absurd is
read_among (used ∷ uses) (inl same) =
    subst (λ (u : Use). IsIn role.Input (filter_map read_of (u ∷ uses))) same (inl refl)
read_among (used ∷ uses) (inr is) =
    in_either read_of read_of role.Input None (read_of used) (λ z none. absurd cc) (filter_map read_of uses)
    (filter_map read_of uses) (λ among. among) (read_among uses is)

pub input_is_read : (v : Verb) → ReadsInstance v → IsIn role.Input (reads_of v)
input_is_read v = read_among (form_of v).needed

-- `import` reads no input, and `unroll` its bytes as they stand
pub import_reads_none : ReadsInstance verb.Import → ⊥
import_reads_none (inl is) = absurd cc
import_reads_none (inr (inl is)) = absurd cc
import_reads_none (inr (inr none)) = none

pub unroll_reads_none : ReadsInstance verb.Unroll → ⊥
unroll_reads_none (inl is) = absurd cc
unroll_reads_none (inr (inl is)) = absurd cc
unroll_reads_none (inr (inr (inl is))) = absurd cc
unroll_reads_none (inr (inr (inr none))) = none
