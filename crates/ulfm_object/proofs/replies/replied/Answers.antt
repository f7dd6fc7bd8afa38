use Rattle.ulfm_object.proofs.replies.replied.Goals as goal

pub returns-in-Poll : goal.returns-in-Poll
returns-in-Poll g c = λ events. rw c.in-Poll.is (c.reply.ensures events)
