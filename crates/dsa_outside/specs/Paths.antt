-- Paths as texts: their folder, the name in it, and the file that is made beside that name.
use Rattle.std.specs.Prelude.{ℕ, List, [], ◌∷◌, ◌++◌, length, ◌==◌, nat_le, slice_index, if◌then◌else◌}
use Rattle.std.specs.Option.{unwrap_or}
use Rattle.std.specs.Path.{slash, dot, path_parent, path_file_name}

-- a folder, with a slash after it; the folder of a mere name is the empty text, and stays
abbrev pub slashed : List ℕ → List ℕ
slashed folder = if length folder == 0 then [] else folder ++ slash ∷ []

-- the folder of a path, ready for a name to follow
abbrev pub folder_of : List ℕ → List ℕ
folder_of path = slashed (unwrap_or (path_parent path) [])

-- the name in the folder
abbrev pub last_of : List ℕ → List ℕ
last_of path = unwrap_or (path_file_name path) []

-- the name, where another one that is seven bytes longer is a name as well
abbrev pub short_of : List ℕ → List ℕ
short_of last = if nat_le (length last) 248 then last else []

-- a file in the same folder, by its ending: a dot, the name, and the ending
abbrev pub part_of : List ℕ → List ℕ → List ℕ
part_of path ending = folder_of path ++ dot ∷ short_of (last_of path) ++ ending

-- where a link leads that holds this text: from the root where it begins with a slash, else from the link's folder
abbrev pub linked_from : List ℕ → List ℕ → List ℕ
linked_from path text = if slice_index text 0 == slash then text else folder_of path ++ text
