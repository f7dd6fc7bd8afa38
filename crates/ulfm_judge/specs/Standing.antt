-- What a judge stands for.
use Rattle.std.specs.Prelude.{◌≡◌, ℕ, length}
use Rattle.ulfm_model.specs.Traces.{Traced}
use Rattle.ulfm_judge.specs.declared.judge.Judge.{Judge}
use Rattle.ulfm_judge.specs.Kept.{AreCalls, traced_of}
use Rattle.ulfm_numbers.specs.Telling.{TablesTell}

-- A judge stands for what lines said: its tables tell the history, the records are those that it keeps, and each caller has the call under way that
-- it keeps at that caller's place.
abbrev pub JudgeStands : {P A : Type 0} {g : _} {k : _} → Judge P A g k → Traced P → Type 0
JudgeStands judge now =
    TablesTell judge.limits.ranks judge.numbers now.history × AreCalls judge.calls.items now.calls
    × (now ≡ traced_of judge.limits now.history judge.records.items now.calls)

-- how many places for calls a judge has
abbrev pub call_places : {P A : Type 0} {g : _} {k : _} → Judge P A g k → ℕ
call_places judge = length judge.calls.items
