-- The line that a verdict is printed as.
use Rattle.std.specs.Prelude.{ℕ, List, [], ◌∷◌, ◌++◌, codes}
use Rattle.std.specs.Fmt.{decimal}
use Rattle.ulfm_model.specs.declared.line.{Why.{Why}, Why.TheVariants.{Text, Call, Look, Event, Own, Reply}}
use Rattle.ulfm_trace.specs.declared.verdict.{Verdict.{Verdict}, Verdict.TheVariants.{Legal, Illegal}}

-- the word of a reason
abbrev pub why_text : Why → List ℕ
why_text Text = codes "text"
why_text Call = codes "call"
why_text Look = codes "look"
why_text Event = codes "event"
why_text Own = codes "own"
why_text Reply = codes "reply"

-- the line of a verdict, with its newline
abbrev pub verdict_text : Verdict → List ℕ
verdict_text Legal = codes "legal" ++ 10 ∷ []
verdict_text (Illegal line why) = codes "illegal line " ++ (decimal line ++ (codes " " ++ (why_text why ++ 10 ∷ [])))
