use Rattle.std.proofs.Common.{rules}
use Rattle.ulfm_words.proofs.accesses.load_revocation.Goals as goal

pub returns-clause-revoked : goal.returns-clause-revoked
returns-clause-revoked g c = search rules steps 100000
