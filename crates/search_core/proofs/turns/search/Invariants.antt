use Rattle.std.proofs.Common.{◌≡◌, ◌+◌, ◌≤◌, ◌⊎◌, None, []}
use Rattle.search_core.proofs.Words.{whole, work}
use Rattle.branching.specs.Logs.{Extends, IsSearchLog}
use Rattle.search_core.specs.Descents.{IsPlace, owed, sky_root, turns_left}
use Rattle.search_core.specs.Meters.{AreMore, AreMoreBy}
use Rattle.search_core.specs.Walks.{HasWatches, IsHeld, due_lines, place_of}
use Rattle.search_core.proofs.turns.search.Given as goal

abbrev pub decreases-turns : goal.decreases-turns
decreases-turns l = turns_left l.task.instance.now l.task.capacity (place_of l.walk)

abbrev pub invariant-turns : goal.invariant-turns
invariant-turns l = record {
  log : IsSearchLog l.task.instance.now l.task.capacity l.log;
  grown : Extends (whole l.task.instance.now l.members) [] l.log.lines;
  place : IsPlace l.task.instance.now l.task.capacity l.log.lines (place_of l.walk);
  root : sky_root l.walk.path.sky ≡ whole l.task.instance.now l.members;
  watched : HasWatches l.log.lines l.walk;
  held : IsHeld l.log.lines l.walk;
  most : l.meter.most ≡ l.fn.meter.most;
  taken : (l.walk.line ≡ None) ⊎ AreMore l.fn.meter l.meter;
  units : l.fn.meter.used ≤ l.meter.used;
  left : l.meter.used + owed l.task.instance.now l.task.capacity (place_of l.walk) ≤
      l.fn.meter.used + work l.task.instance.now l.task.capacity (whole l.task.instance.now l.members);
  counted : AreMoreBy (due_lines l.log.lines l.walk.path) l.fn.meter l.meter;
}
