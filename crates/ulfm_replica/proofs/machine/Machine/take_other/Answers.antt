use Rattle.std.proofs.Common.{◌≡◌, ◌∷◌, [], ℕ, List, Bool, true, false, inl, length, length-append, refl, sym, ◌∙◌, ap, subst, arith, if◌then◌else◌}
use Rattle.ulfm_words.specs.Steps.{Name}
use Rattle.ulfm_numbers.specs.Telling.{TablesTell}
use Rattle.ulfm_replica.specs.Replicas.{IsFed, Replays, Replicated, Takes, is_taken, rules}
use Rattle.ulfm_replica.specs.declared.answers.Fed.TheVariants as fed
use Rattle.ulfm_replica.proofs.Logs.{goes_on}
use Rattle.ulfm_replica.proofs.machine.Machine.take_other.Goals as goal

-- what an entry did tells whether it was taken, and that it wasn't the call's own
tells : (taken : Bool) → taken ≡ is_taken (if taken then fed.Taken else fed.LeftOut)
tells true = refl
tells false = refl

others : (taken : Bool) {X : Type 0} → (if taken then fed.Taken else fed.LeftOut) ≡ fed.Own → X
others true is = absurd (cc is)
others false is = absurd (cc is)

pub invariant_of-machine : goal.invariant_of-machine
invariant_of-machine g c =
    let by = rules g.P.Meld.meld g.P.Packed.pack in
    let at = c.self.inside.at in
    let words = sym c.in_ok-at.ensures.keeps.words in
    let count : c.self.inside.count ≡ length c.self.inside.log.items = c.self.invariant.2 in (
      subst (λ (n : Name). Replays by n.limits [] c.and.result.items c.in_ok-at.at.pass.seen) words
          (subst (λ (log : List (List ℕ)). Replays by at.words.limits [] log c.in_ok-at.at.pass.seen) (sym c.and.ensures)
          (goes_on (Takes by at.words.limits) c.self.inside.log.items c.args.bytes.now.bytes c.in_ok-at.taken [] at.pass.seen c.in_ok-at.at.pass.seen c.self.invariant.0 (inl (c.args.entry, c.requires.read, c.in_ok-at.ensures.feeds)))),
      subst (λ (n : Name). TablesTell n.limits.ranks c.taking.new.numbers c.in_ok-at.at.pass.seen) words c.in_ok-at.ensures.tells,
      omega (arith, count, ap length c.and.ensures, length-append c.self.inside.log.items (c.args.bytes.now.bytes ∷ [])),
    )

pub returns : goal.returns
returns g c =
    let by = rules g.P.Meld.meld g.P.Packed.pack in
    let at = c.self.inside.at in
    let done = c.done_by.ensures in
    let taken = tells c.in_ok-at.taken ∙ ap is_taken (sym done) in
    subst (λ (r : Replicated g.row.P.Denot). IsFed by r c.args.bytes.now.bytes c.done_by.result (record { at = c.in_ok-at.at; fed = c.and.result.items })) c.self.view_is
    (record {
      fed = c.and.ensures;
      takes = subst (λ (b : Bool). Takes by at.words.limits c.args.bytes.now.bytes b at.pass.seen c.in_ok-at.at.pass.seen) taken (inl (c.args.entry, c.requires.read, c.in_ok-at.ensures.feeds));
      mine = λ is. others c.in_ok-at.taken (sym done ∙ is);
      keeps = c.in_ok-at.ensures.keeps;
    })
