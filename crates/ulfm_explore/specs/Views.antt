-- What a reading of a trace has come to, as definitions see it.
use Rattle.std.specs.Prelude.{ℕ, if◌then◌else◌, List, map, Some, None}
use Rattle.ulfm_explore.specs.{Readings.{Reached}, Tellings.{Told}}
use Rattle.ulfm_explore.specs.declared.confirm.Shown.{Shown}
use Rattle.ulfm_explore.specs.declared.reading.Reading.{Reading}
use Rattle.ulfm_schedules.specs.declared.moves.{Fate.{Fate}, Row.{Row}}

-- how far a rank has come, by what is kept of it
abbrev pub reached : {A : Type 0} → Reading A → Reached
reached it =
    record {
      fate = it.fate;
      at = it.place;
      current = it.current;
      is_calling = it.is_calling;
      last = if it.is_answered then Some it.last.items else None;
      noted = it.noted.items;
      called = it.called;
      failures = it.failures;
      fits = it.fits;
    }

-- what became of a rank, and what it noted
abbrev pub row_of : {A : Type 0} → Row A → Fate × List ℕ
row_of row = (row.fate, row.noted.items)

-- an outcome by its ranks, and its script
abbrev pub told_of : {A : Type 0} → Shown A → Told
told_of shown = (map row_of shown.rows.items, shown.script.items)
