-- Worked drafts and paths.
use Rattle.std.proofs.Common.{◌≡◌, ℕ, true, false, List, [], ◌∷◌, None, Some, refl, replicate}
use Rattle.dsa_outside.specs.Drafts.{DraftState, IsReady, with_rights, written, synced, renamed, removed, name_of}
use Rattle.std.specs.Path.{path_parent, path_file_name, split_last_component, rsplit_once, trim_trailing}
use Rattle.dsa_outside.specs.Paths.{slashed, folder_of, last_of, short_of, part_of, linked_from}

-- ---- a draft of a file that holds 9
abbrev begun : DraftState
begun = record {
  text = [];
  has_rights = false;
  is_synced = false;
  is_beside = true;
  named = Some (9 ∷ []);
}

-- 1 and 2 were written in two calls
abbrev whole : DraftState
whole = written (2 ∷ []) (written (1 ∷ []) (with_rights begun))

both_are_written : whole.text ≡ 1 ∷ 2 ∷ []
both_are_written = refl

ready : IsReady (synced whole)
ready = record { has_rights = refl; is_synced = refl }

not_synced : IsReady whole → ⊥
not_synced r = let k = r.is_synced in absurd (cc)

rights_are_missing : IsReady (synced (written (1 ∷ []) begun)) → ⊥
rights_are_missing r = let k = r.has_rights in absurd (cc)

-- what is written after a sync is not yet on the disk
more_is_written : IsReady (written (3 ∷ []) (synced whole)) → ⊥
more_is_written r = let k = r.is_synced in absurd (cc)

-- until then the name holds 9
old_is_kept : name_of (Some (synced whole)) ≡ Some (Some (9 ∷ []))
old_is_kept = refl

new_is_there : name_of (Some (renamed (synced whole))) ≡ Some (Some (1 ∷ 2 ∷ []))
new_is_there = refl

gone_by_its_name : (renamed (synced whole)).is_beside ≡ false
gone_by_its_name = refl

taken_away : name_of (Some (removed whole)) ≡ Some (Some (9 ∷ []))
taken_away = refl

nothing_is_told : name_of None ≡ None
nothing_is_told = refl

-- ---- the path 'd/o'
abbrev path : List ℕ
path = 100 ∷ 47 ∷ 111 ∷ []

its_folder : folder_of path ≡ 100 ∷ 47 ∷ []
unfolding path_parent split_last_component rsplit_once trim_trailing
its_folder = refl

its_name : last_of path ≡ 111 ∷ []
unfolding path_file_name split_last_component rsplit_once trim_trailing
its_name = refl

-- 'd/.o.p'
its_part : part_of path (46 ∷ 112 ∷ []) ≡ 100 ∷ 47 ∷ 46 ∷ 111 ∷ 46 ∷ 112 ∷ []
unfolding path_parent path_file_name split_last_component rsplit_once trim_trailing
its_part = refl

-- a mere name has no folder
no_folder : folder_of (111 ∷ []) ≡ []
unfolding path_parent split_last_component rsplit_once trim_trailing
no_folder = refl

-- of '/a/o' the folder is '/a/'
folder_in_a_folder : (folder_of (47 ∷ 97 ∷ 47 ∷ 111 ∷ []) ≡ 47 ∷ 97 ∷ 47 ∷ [])
    × (last_of (47 ∷ 97 ∷ 47 ∷ 111 ∷ []) ≡ 111 ∷ [])
unfolding path_parent path_file_name split_last_component rsplit_once trim_trailing
folder_in_a_folder = (refl, refl)

slash_follows : slashed (100 ∷ []) ≡ 100 ∷ 47 ∷ []
slash_follows = refl

-- a name of 248 bytes is kept, one of 249 is not
kept_name : short_of (replicate 248 111) ≡ replicate 248 111
kept_name = refl

long_name : short_of (replicate 249 111) ≡ []
long_name = refl

-- a link under it that holds 'a' leads to 'd/a', and one that holds '/a' there
link_in_its_folder : linked_from path (97 ∷ []) ≡ 100 ∷ 47 ∷ 97 ∷ []
unfolding path_parent split_last_component rsplit_once trim_trailing
link_in_its_folder = refl

link_from_the_root : linked_from path (47 ∷ 97 ∷ []) ≡ 47 ∷ 97 ∷ []
link_from_the_root = refl
