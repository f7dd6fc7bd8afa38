use Rattle.std.proofs.Common.{◌≡◌, ◌∷◌, [], ℕ, List, inr, false, length, length-append, refl, sym, ap, subst, arith}
use Rattle.ulfm_replica.specs.Replicas.{IsFed, Replays, Replicated, Takes, rules}
use Rattle.ulfm_replica.specs.declared.answers.Fed.TheVariants as fed
use Rattle.ulfm_replica.proofs.{Fitting.{keeps_same}, Logs.{goes_on}}
use Rattle.ulfm_replica.proofs.machine.Machine.pass_over.Goals as goal

pub invariant_of-result : goal.invariant_of-result
invariant_of-result g c =
    let by = rules g.P.Meld.meld g.P.Packed.pack in
    let at = c.self.inside.at in
    let count : c.self.inside.count ≡ length c.self.inside.log.items = c.self.invariant.2 in (
      subst (λ (log : List (List ℕ)). Replays by at.words.limits [] log at.pass.seen) (sym c.and.ensures)
          (goes_on (Takes by at.words.limits) c.self.inside.log.items c.args.bytes.now.bytes false [] at.pass.seen at.pass.seen c.self.invariant.0 (inr (c.requires.nobody, refl, refl))),
      c.self.invariant.1,
      omega (arith, count, ap length c.and.ensures, length-append c.self.inside.log.items (c.args.bytes.now.bytes ∷ [])),
    )

pub returns : goal.returns
returns g c =
    let by = rules g.P.Meld.meld g.P.Packed.pack in
    subst (λ (r : Replicated g.row.P.Denot). IsFed by r c.args.bytes.now.bytes fed.LeftOut (record { at = c.self.inside.at; fed = c.and.result.items })) c.self.view_is
    (record {
      fed = c.and.ensures;
      takes = inr (c.requires.nobody, refl, refl);
      mine = λ is. absurd (cc is);
      keeps = keeps_same by c.self.inside.at;
    })
