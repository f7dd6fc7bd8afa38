-- What is kept, where the tables of numbers tell a history.
use Rattle.std.specs.Prelude.{◌≡◌, Bool, IfOk, IsTrue, List, [], Result}
use Rattle.ulfm_model.specs.History.{History}
use Rattle.ulfm_model.specs.declared.{event.Caller.{Caller}, limits.Limits.{Limits}, reply.Reply.{Reply}}
use Rattle.ulfm_model.specs.Words.{MayOpen}
use Rattle.ulfm_numbers.specs.{declared.numbers.Numbers.{Numbers}, Telling.{TablesTell}}
use Rattle.ulfm_model.specs.declared.record.RankRecord.{RankRecord}
use Rattle.ulfm_model.specs.Traces.{Traced, Under}
use Rattle.ulfm_judge.specs.declared.calls.OpenCall.{OpenCall}
use Rattle.ulfm_judge.specs.Kept.{AreCalls, MayLeave, traced_of}

-- what is kept goes on to a state that passes: there is a history that the tables tell, and what is said with it does
abbrev pub TellsSome : {P A W : Type 0} {g : _} {k : _}
    → Limits → Numbers P A g k → List (RankRecord A) → List (OpenCall P A) → (Traced P → W → Type 0) → W → Type 0
TellsSome {P} limits numbers records calls Taken why =
    (h : History P) × (us : List (Under P)) × TablesTell limits.ranks numbers h × AreCalls calls us × Taken (traced_of limits h records us) why

-- an answer, if it comes, is what a test says of what lines said, for each history that the tables tell
abbrev pub AnswersBy : {P A E : Type 0} {g : _} {k : _} → Limits → Numbers P A g k → List (RankRecord A) → Result Bool E → (Traced P → Bool) → Type 0
AnswersBy {P} limits numbers records result test =
    (h : History P) → TablesTell limits.ranks numbers h → IfOk result (λ b. b ≡ test (traced_of limits h records []))

-- where the answer is yes, a request that the reply says has started has a round whose next number fits
abbrev pub LeavesRound : {P A E : Type 0} → Limits → List (RankRecord A) → Caller → Under P → Reply P → Result Bool E → Type 0
LeavesRound limits records by u reply result = MayOpen limits → IfOk result (λ b. IsTrue b → MayLeave (traced_of limits [] records []) by u reply)
