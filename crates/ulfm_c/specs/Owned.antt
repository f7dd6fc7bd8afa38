-- What a handle at a pointer owns: nothing at null, and else the box there.
use base.Fml.{Fml, feq}
use denote.RattleType.{RattleType}
use denote.RawPtr.{Ptr, null_ptr}
use Rattle.std.specs.declared.option.Option.{Option}
use Rattle.std.specs.declared.option.Option.TheVariants.{None, Some}
use Rattle.std.specs.contracts.impls.GlobalAllocator.TheImpl.{ghosts}
use mir.Syntax.{Ty}
use Rattle.std_alloc.specs.Box.Ownership.{box_owns}

-- the right to free a block, whichever handle to the heap it came by
abbrev pub block : Ty → Ptr → Fml
block = ghosts.dealloc_token (record { memory = record { seal = tt } })

abbrev pub owned_at : (R : RattleType) → Ptr → Option R.Denot → Fml
owned_at R p None = feq Ptr p null_ptr
owned_at R p (Some x) = box_owns block R p x
