use Rattle.std.proofs.Common.{rules}
use Rattle.ulfm_laws.proofs.flag_and.FlagAndPacked.pack.Goals as goal

pub returns : goal.returns
returns c = search rules steps 100000
