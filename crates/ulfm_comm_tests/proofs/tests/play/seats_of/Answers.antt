use Rattle.std.proofs.Common.{◌≡◌, [], None, subst, sym}
use Rattle.std.specs.List.{AllByRecursion}
use Rattle.ulfm_words.specs.Steps.{over}
use Rattle.ulfm_model.specs.Records.{Fits}
use Rattle.ulfm_model.proofs.Lists.{each_push}
use Rattle.ulfm_comm.specs.Counts.{records_of}
use Rattle.ulfm_comm_tests.specs.Playing.{Plays}
use Rattle.ulfm_comm_tests.proofs.tests.play.seats_of.Goals as goal

pub loop-own-init : goal.loop-own-init
loop-own-init g c =
    let meld = g.P.Meld.meld in
    let name = over g.P.Packed.pack c.args.world.now in
    let pass = g.W.Words.sight c.args.pass.now in
    let all : c.into_iter-own-iterator.result.rest.items ≡ c.args.ranks.items = c.into_iter-own-iterator.ensures.into_iter_gives.0 in
    let fits = subst (λ rs. AllByRecursion (Fits meld name.limits []) (records_of rs)) (sym all) c.requires.fits in
    (fits, subst (AllByRecursion (Plays meld name pass)) (sym c.in_ok-seats.ensures.items) tt)

pub loop-own-preserved : goal.loop-own-preserved
loop-own-preserved g c =
    let meld = g.P.Meld.meld in
    let name = over g.P.Packed.pack c.args.world.now in
    let pass = g.W.Words.sight c.args.pass.now in
    let left = subst (λ rs. AllByRecursion (Fits meld name.limits []) (records_of rs)) c.in-Some.ensures.steps.0 c.loop-own.invariant.0 in
    let fits = subst (λ h. Fits meld name.limits h c.in-Some.own.own) (sym c.requires.new.seen) left.0 in
    let all = each_push (Plays meld name pass) c.loop-own.seats.items (record { own = c.in-Some.own.own; doing = None }) c.loop-own.invariant.1 fits in
    (left.1, subst (AllByRecursion (Plays meld name pass)) (sym c.in_ok-push.ensures.items) all)
