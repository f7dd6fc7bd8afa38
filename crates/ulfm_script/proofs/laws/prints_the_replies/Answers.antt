use Rattle.ulfm_script.proofs.CallLemmas.{printed_replies}
use Rattle.ulfm_script.proofs.laws.prints_the_replies.Goals as goal

pub returns : goal.returns
returns c = printed_replies
