use Rattle.std.proofs.Common.{rules, ◌≡◌, ◌∙◌, ap, refl, sym, subst, w32, to_z, of_z}
use Rattle.std.specs.Prelude.{Option, Some}
use Rattle.ulfm_c.specs.Calls.{HandleCalls, PartyCalls, RankAgrees}
use Rattle.ulfm_c.specs.Codes.{code}
use Rattle.ulfm_c.specs.declared.party.Party.{Party}
use Rattle.ulfm_c.specs.declared.party.Party.TheVariants.{Rank}
use Rattle.ulfm_c.proofs.calls.ulfm_iagree.Goals as goal

pub returns-in-Rank : goal.returns-in-Rank
returns-in-Rank c =
    let told : to_z w32 (of_z w32 c.code_of.result) ≡ code c.iagree.result = search rules in
    let held : c.args.handle.now.party ≡ Some (Rank c.in-Rank.member) = c.in-Some.ensures.lent ∙ ap Some c.in-Rank.is in
    subst
    (λ (s : Option Party). HandleCalls (PartyCalls (RankAgrees c.args.comm c.args.flag)) s (Some (Rank c.iagree.new.self)) (to_z w32 (of_z w32 c.code_of.result)))
    (sym held)
    (record {
      flag = record { bits = c.args.flag; fits = _ };
      bits_are = refl;
      does = record { reply = c.iagree.result; calls = c.iagree.ensures; code_is = told };
    })
