-- What the parts of a section list stand for.
use Rattle.std.specs.Prelude.{ℕ, List, map}
use Rattle.std.specs.Global.{Vec}
use Rattle.dsa_model.specs.Lists.{items_of}
use Rattle.lifetime.specs.SectionList as terms
use Rattle.lifetime.specs.declared.section_list.Section.{Section}

-- a section by its moment and the list of its members
abbrev pub section_of : Section → terms.Section
section_of x = record { start = x.start; members = x.members.items }

-- a section list by its sections and its lists of places
abbrev pub list_of : List Section → List (Vec ℕ) → terms.SectionList
list_of sections of_buffers = record { sections = map section_of sections; of_buffers = map items_of of_buffers }
