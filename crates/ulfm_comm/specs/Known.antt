-- What a call knows of the blocks of its round.
use Rattle.std.specs.Prelude.{List, ⊤}
use Rattle.ulfm_model.specs.declared.{block.Beside.{Beside}, call.Call.{Call}}
use Rattle.ulfm_model.specs.Records.{Record}
use Rattle.ulfm_steps.specs.Blocks.{AreSet}
use Rattle.ulfm_comm.specs.Requests.{BlocksStand, LeavesSet}
use Rattle.ulfm_comm.specs.declared.{phases.phase.Next.{Next}, phases.phase.Next.TheVariants.{Goes, Ends}, phases.phase.Phase.{Phase}}
use Rattle.ulfm_comm.specs.declared.phases.phase.Phase.TheVariants.{Peeking, Marking, Reading, ReadingOn, Spawning}

-- The blocks of which a call knows what they say are among these; and once it knows what its whole round says, all blocks of that are.
abbrev pub KnowsIn : {P : Type 0} → Record → Call P → List Beside → Phase P → Type 0
KnowsIn own asked cached (Peeking peek shrinks) = AreSet cached peek.comm peek.round peek.blocks
KnowsIn own asked cached (Marking marks blocks shrinks) = AreSet cached marks.comm marks.round blocks
KnowsIn own asked cached (Reading reading shrinks) = AreSet cached reading.comm reading.round reading.blocks
KnowsIn own asked cached (ReadingOn on made) = BlocksStand own asked cached
KnowsIn own asked cached (Spawning append context reach) = BlocksStand own asked cached
KnowsIn own asked cached _ = ⊤

-- .. after a step of a rank that had this record before it: where the call goes on, or by its reply
abbrev pub KnowsNext : {P : Type 0} → Record → Call P → List Beside → Next P → Type 0
KnowsNext own asked cached (Goes phase) = KnowsIn own asked cached phase
KnowsNext own asked cached (Ends reply) = LeavesSet own asked reply cached
