use Rattle.std.proofs.Common.{◌≡◌, ◌++◌, ◌∷◌, [], ℕ, List, inl, true, length, length-append, sym, ap, subst, arith}
use Rattle.ulfm_model.specs.History.{History}
use Rattle.ulfm_words.specs.Steps.{Name}
use Rattle.ulfm_numbers.specs.Telling.{TablesTell}
use Rattle.ulfm_replica.specs.Replicas.{IsFed, IsWanted, Replays, Replicated, Takes, rules}
use Rattle.ulfm_replica.specs.declared.answers.Fed.TheVariants as fed
use Rattle.ulfm_replica.proofs.{Fitting.{same_seen}, Logs.{goes_on}}
use Rattle.ulfm_replica.proofs.machine.Machine.take_own.Goals as goal
use Rattle.ulfm_replica.proofs.machine.Machine.take_own.Goals.{After-and}

-- it waited for this
wanted : (g : _) (c : After-and g) → IsWanted (rules g.P.Meld.meld g.P.Packed.pack) c.self.inside.at c.args.entry
wanted g c = subst (λ (r : Replicated g.row.P.Denot). IsWanted (rules g.P.Meld.meld g.P.Packed.pack) r.at c.args.entry) (sym c.self.view_is) c.requires.wanted

-- which alone has come
seen : (g : _) (c : After-and g) → c.in_ok-at.at.pass.seen ≡ c.self.inside.at.pass.seen ++ c.args.entry ∷ []
seen g c =
    let before = c.self.inside.at.pass.seen in
    let one = c.is_one_more.ensures c.if-not-is_one_more.false in
    same_seen (before ++ c.args.entry ∷ []) c.in_ok-at.at.pass.seen (c.in_ok-at.ensures.makes c.args.entry (wanted g c))
    (omega (arith, one, c.seen-seen.ensures, c.seen.ensures, length-append before (c.args.entry ∷ [])))

pub invariant_of-result : goal.invariant_of-result
invariant_of-result g c =
    let by = rules g.P.Meld.meld g.P.Packed.pack in
    let at = c.self.inside.at in
    let here = (goal.at.invariant_of-result g c).After-and in
    let words = sym c.in_ok-at.ensures.steps.keeps.words in
    let come = sym (seen g here) in
    let count : c.self.inside.count ≡ length c.self.inside.log.items = c.self.invariant.2 in (
      subst (λ (n : Name). Replays by n.limits [] c.and.result.items c.in_ok-at.at.pass.seen) words
          (subst (λ (log : List (List ℕ)). Replays by at.words.limits [] log c.in_ok-at.at.pass.seen) (sym c.and.ensures)
          (goes_on (Takes by at.words.limits) c.self.inside.log.items c.args.bytes.now.bytes true [] at.pass.seen c.in_ok-at.at.pass.seen c.self.invariant.0 (inl (c.args.entry, c.requires.read, ((wanted g here).follows, seen g here))))),
      subst (λ (n : Name). TablesTell n.limits.ranks c.note.new.self c.in_ok-at.at.pass.seen) words
          (subst (λ (h : History g.row.P.Denot). TablesTell at.words.limits.ranks c.note.new.self h) come (c.in-Ok.ensures at.words.limits.ranks at.pass.seen c.self.invariant.1)),
      omega (arith, count, ap length c.and.ensures, length-append c.self.inside.log.items (c.args.bytes.now.bytes ∷ [])),
    )

pub returns-in-Ok : goal.returns-in-Ok
returns-in-Ok g c =
    let by = rules g.P.Meld.meld g.P.Packed.pack in
    let here = (goal.at.returns-in-Ok g c).After-and in
    subst (λ (r : Replicated g.row.P.Denot). IsFed by r c.args.bytes.now.bytes fed.Own (record { at = c.in_ok-at.at; fed = c.and.result.items })) c.self.view_is
    (record {
      fed = c.and.ensures;
      takes = inl (c.args.entry, c.requires.read, ((wanted g here).follows, seen g here));
      mine = λ is. (c.args.entry, c.requires.read.0, (wanted g here).mine);
      keeps = c.in_ok-at.ensures.steps.keeps;
    })
