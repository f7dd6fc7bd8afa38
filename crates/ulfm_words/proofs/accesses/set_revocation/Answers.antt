use Rattle.ulfm_words.proofs.Setting.{may_end}
use Rattle.ulfm_words.proofs.accesses.set_revocation.Goals as goal

pub set_once-requires-clause-may : goal.set_once-requires-clause-may
set_once-requires-clause-may g c =
    may_end g.P.Meld.meld g.P.Packed.pack g.P.Packed.unpack (g.W.Words.name c.args.words.now).limits (g.W.Words.sight c.args.pass.now).seen c.args.by c.args.comm c.requires.may
