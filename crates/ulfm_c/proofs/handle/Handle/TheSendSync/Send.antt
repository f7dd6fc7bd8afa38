-- A handle may go to another thread, since what it holds may.
use mir.Raw.{raw}
use base.Fraction.{full_share}
use base.Shift.{Keyless}
use denote.Memory.{lone}
use denote.RawPtr.{Ptr, block_ptr, null_ptr}
use denote.Param.Send.{IsSend, part_keyless}
use Rattle.std.specs.declared.option.Option.{Option}
use Rattle.std.specs.declared.option.Option.TheVariants.{None, Some}
use Rattle.std.proofs.Crossing.{frees}
use Rattle.ulfm_c.specs.Owned.{owned_at}
use Rattle.ulfm_c.specs.contracts.handle.Handle.{the_row}
use Rattle.ulfm_c.specs.contracts.party.Party as party
use Rattle.ulfm_c.proofs.party.Party.TheSendSync.{the_send}

owned_keyless : (p : Ptr) (s : Option (party.the_row.Denot)) → Keyless (owned_at party.the_row p s)
owned_keyless p None = tt
owned_keyless (block_ptr b o) (Some x) =
    (part_keyless party.the_row the_send full_share x b o, frees.frees (record { memory = record { seal = tt } }) (raw (lone party.the_row.mir)) (block_ptr b o))
owned_keyless null_ptr (Some x) = (tt, frees.frees (record { memory = record { seal = tt } }) (raw (lone party.the_row.mir)) null_ptr)

pub send : IsSend the_row
send = record { owned = λ h vs. ((λ vss. (tt, (tt, tt))), owned_keyless h.at h.party); leaving = λ k d w. tt }
