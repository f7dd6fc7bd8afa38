use Rattle.std.proofs.Common.{true, false}
use Rattle.ulfm_race.proofs.Gathering.{adds}
use Rattle.ulfm_race.proofs.gather.Gathered.add.Goals as goal

pub returns-then-made-clause-adds : goal.returns-then-made-clause-adds
returns-then-made-clause-adds c h r heard was none =
    adds _ c.args.self.now.plan h r c.args.self.now.replies.items c.push_reserved.new.self.items c.args.heard.replies c.args.self.now.group.items c.args.heard.made c.args.heard.group.items true
    c.push_reserved.ensures.items c.if-made.true (was none) heard

pub returns-else-made-clause-adds : goal.returns-else-made-clause-adds
returns-else-made-clause-adds c h r heard was none =
    adds _ c.args.self.now.plan h r c.args.self.now.replies.items c.push_reserved.new.self.items c.args.heard.replies c.args.self.now.group.items c.args.heard.made c.args.heard.group.items false
    c.push_reserved.ensures.items c.if-made.false (was none) heard
