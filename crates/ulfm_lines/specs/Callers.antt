-- Whose a line of a trace is.
use Rattle.ulfm_model.specs.declared.event.{Caller.{Caller}, Caller.TheVariants.{Rank}}
use Rattle.ulfm_model.specs.declared.line.{Line.{Line}, Line.TheVariants.{Called, Happened, Looked, Replied}}
use Rattle.ulfm_model.specs.Answers.{traits_of}

-- whose line it is
abbrev pub line_by : {P : Type 0} → Line P → Caller
line_by (Called asked padded) = (traits_of asked).by
line_by (Looked r count) = Rank r
line_by (Happened by event) = by
line_by (Replied by point reply) = by
