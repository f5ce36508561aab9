use Rattle.std.proofs.Common.{◌∷◌, []}
use Rattle.run_course.specs.Prepares.{write_of}
use Rattle.run_course.proofs.TwoWrites.{first_lost, second_lost, first_made}
use Rattle.run_course.proofs.performance.write.Goals as goal

pub returns-in-Err-Failed-clause-left : goal.returns-in-Err-Failed-clause-left
returns-in-Err-Failed-clause-left g c =
    rw c.in-One.is (first_lost _ _ (write_of c.in-One.file) [] (c.in-Err-Failed.ensures.failed search)
    c.in-Err-Failed.ensures.others)

pub returns-in-Err-Failed-write-2-clause-left : goal.returns-in-Err-Failed-write-2-clause-left
returns-in-Err-Failed-write-2-clause-left g c =
    rw c.in-Both.is (second_lost _
    (g.F.Files.seen c.write-in-Both.new.self)
    _ (write_of c.in-Both.first) (write_of c.in-Both.second)
    (rw c.as_slice-in-Both.ensures.value at c.in-Ok-write.ensures.written) c.in-Ok-write.ensures.counts
    (c.in-Err-Failed-write-2.ensures.failed search) c.in-Err-Failed-write-2.ensures.others)

pub returns-in-Err-NoMemory-write-2-clause-begun : goal.returns-in-Err-NoMemory-write-2-clause-begun
returns-in-Err-NoMemory-write-2-clause-begun g c =
    rw c.in-Both.is (first_made _
    (g.F.Files.seen c.write-in-Both.new.self)
    _ (write_of c.in-Both.first) (write_of c.in-Both.second)
    (rw c.as_slice-in-Both.ensures.value at c.in-Ok-write.ensures.written)
    (c.in-Err-NoMemory-write-2.ensures.no_memory search))

pub returns-in-Err-Failed-write-clause-left : goal.returns-in-Err-Failed-write-clause-left
returns-in-Err-Failed-write-clause-left g c =
    rw c.in-Both.is (first_lost _ _ (write_of c.in-Both.first) (write_of c.in-Both.second ∷ [])
    (c.in-Err-Failed-write.ensures.failed search) c.in-Err-Failed-write.ensures.others)
