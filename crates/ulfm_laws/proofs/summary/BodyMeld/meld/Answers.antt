use Rattle.std.proofs.Common.{rules}
use Rattle.ulfm_laws.proofs.summary.BodyMeld.meld.Goals as goal

pub returns-in-Clash-default : goal.returns-in-Clash-default
returns-in-Clash-default g c = search rules steps 400000

pub returns-in-Flag-Ctx : goal.returns-in-Flag-Ctx
returns-in-Flag-Ctx g c = search rules steps 400000
