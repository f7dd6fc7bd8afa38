-- What becomes of a handle that lends what it holds.
use Rattle.std.specs.Prelude.{Option, Some}
use Rattle.std.specs.Borrow.{LendsIf, MutBor, Fml}
use Rattle.ulfm_c.specs.declared.handle.Handle.{Handle}
use Rattle.ulfm_c.specs.declared.party.Party.{Party}
use Rattle.ulfm_c.specs.contracts.handle.Handle as handle
use Rattle.ulfm_c.specs.contracts.party.Party as party

-- the handle, with the same pointer, that holds this
abbrev pub with_party : Handle → Party → Handle
with_party h held = record { at = h.at; party = Some held }

-- the handle ends with what was left in the place that was lent, and as it was where nothing was lent
abbrev pub lends_party : MutBor Handle → Option (MutBor Party) → Fml
lends_party h lent = LendsIf handle.the_row party.the_row h lent (with_party h.now) h.now
