use Rattle.std.proofs.Common.{◌≡◌, map}
use Rattle.ulfm_model.specs.{History.{first_ranks}, Records.{new_record}}
use Rattle.ulfm_model.specs.Kept.{record_of}
use Rattle.ulfm_model.proofs.fresh.new_records.Given as goal

abbrev pub invariant-loop-number : goal.invariant-loop-number
invariant-loop-number g l = map (record_of l.fn.limits) l.records.items ≡ map (new_record l.fn.limits) (first_ranks l.number)
