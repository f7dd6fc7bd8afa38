use Rattle.std.proofs.Common.{inl, inr}
use Rattle.ulfm_script.proofs.laws.stops_at_the_first_fault.Goals as goal

pub returns : goal.returns
returns c = λ known left old new number kind ran. elim ran.2.0 [ inl own ↦ own | inr found ↦ absurd found.0.finds ]
