-- `party` compares the pointer with null, and lends what the box has where it isn't.
use Rattle.std.proofs.Common.{◌≡◌, ℕ, List, [], ◌∷◌, ◌++◌, refl, sym, subst, lit<}
use seplogic.Ra.Ura.{Ura}
use base.Fraction.{full_share}
use mir.Syntax.{named}
use mir.Raw.{raw as bare}
use mir.Val.{Val, vptr, vcons, vnil}
use base.Logic.{SProp, ent, id⊢, sep}
use base.Fml.{Lft, GName, Share, Fml, ftrue, fsep, flft, fres}
use prog.Wp.{WpFn}
use types.Logic.{Logic, sem}
use types.Kit.{‵, raw, ◌⊛◌, some as exists, later, await, pick, at_ret, ◌$◌, ◌∵◌, !, qed, move, keep, drop, split, split3, join, group, rewrite, fsplit, fsplit3, fjoin, fpack, feq_i, suffices, frame, done, use0, use1}
use types.Run.{stop, fld, lit, load, addr, of_opd, bin, no_more, and_then, first, blocks, branches, skips, exec, returns, returns_within, enter}
use types.ByLocal.{alloc_all, pass_all, free_all, look_at, get, through, sets, sets_last, is, env}
use types.Part.{agg, sub, whole, look_in}
use types.Match.{live}
use contract.Running.{tables}
use denote.Exit.{no}
use denote.RattleType.{RattleType, owns}
use denote.Memory.{mem, cell_at, part_at, part_of, lone}
use denote.RawPtr.{Ptr, block_ptr, null_ptr, tests_null}
use denote.Ref.{MutRef, MutBor}
use denote.Signature.{types_at, plain, mut_ref_to}
use denote.Steps.{nothing, opens, closes}
use denote.Follow.{follows, follows_by, lends_Part}
use denote.Triple.Walked.{says, Stays, stay_dropped, walk_of, ends_at, Goes-spent_ref}
use Rattle.std.proofs.raw_atomic.Walks.{proved_at}
use Rattle.std.proofs.alloc.Shapes.{after}
use Rattle.std.proofs.option.Made.{Some-of, none_of}
use Rattle.std.specs.contracts.option.Option as Opt
use Rattle.std.specs.declared.option.Option.{Option}
use Rattle.std.specs.declared.option.Option.TheVariants.{None, Some}
use Rattle.ulfm_c.specs.Owned.{block}
use Rattle.ulfm_c.specs.Lends.{with_party}
use Rattle.ulfm_c.proofs.Handles.{Handle, alone, handle_in, handle_out, either_owned}
use Rattle.ulfm_c.specs.contracts.party.Party as party
use Rattle.ulfm_c.specs.contracts.handle.Handle.party as f
use Rattle.ulfm_c.proofs.handle.Handle.party.Statement.{statement}
use Rattle.ulfm_c.proofs.handle.Handle.party.Code as code

abbrev R : RattleType
R = party.the_row

abbrev hs : Stays f.ended.signature.params f.ended.kept
hs = (stay_dropped (mut_ref_to (0 ∷ []) tt (plain (λ _. Handle))) no, tt)

-- all of the handle but what the box has
abbrev Rest : (b o rb ro : ℕ) → Fml
Rest b o rb ro = fsep (block (bare (lone R.mir)) (block_ptr b o)) (cell_at full_share Handle.mir (alone (block_ptr b o) ∷ []) rb ro)

back : {M : Type 1} {𝓤 : Ura M} (𝓛 : Logic 𝓤) (b o rb ro : ℕ) (d : Handle.Denot) → d.at ≡ block_ptr b o → (w : R.Denot)
    → ent 𝓤 (sep 𝓤 (sem 𝓛 ((mem R).own_at w b o)) (sem 𝓛 (Rest b o rb ro))) (sem 𝓛 ((mem Handle).own_at (with_party d w) rb ro))
unfolding part_of
back 𝓛 b o rb ro d is w =
    qed 𝓛 (‵ (part_at R full_share w b o) ∷ ‵ (Rest b o rb ro) ∷ []) ∵ move ! (1 ∷ []) $ fsplit ! $ move ! (2 ∷ 0 ∷ []) $ fjoin ! $
    handle_in ! (block_ptr b o) (Some w) $
    rewrite ! 0 (λ (p : Ptr). ‵ (Handle.own_val (record { at = p; party = Some w }) (alone (block_ptr b o) ∷ []))) (sym is) refl $
    move ! (1 ∷ 0 ∷ []) $ fjoin ! $
    fpack ! (List Val) (λ us. fsep (cell_at full_share Handle.mir us rb ro) (Handle.own_val (with_party d w) us)) (alone (block_ptr b o) ∷ []) $ done !

pub party_spec : {M : Type 1} → statement M
unfolding follows_by
party_spec 𝓤 𝓛 𝓜 𝓡 wired =
    let c = f.clauses 𝓛 𝓜.mem 𝓡.returns in let 𝓣 = tables 𝓤 𝓛.H 𝓜 𝓡 𝓡.env in
    proved_at 𝓛 f.ended hs c 𝓜 𝓡 (Goes-spent_ref 𝓛 1 (0 ∷ []) tt (plain (λ _. Handle)), tt) f.Key.name code.function (code.unfolded 𝓤 𝓛.H 𝓜 𝓡 wired) (λ z are.
    let d : Handle.Denot = z.0.3.0.now in let γ : GName = z.0.3.0.ghost_name in let κ : Lft = z.0.0.0 in let q : Share = z.0.1.0 in
    let rb : ℕ = z.0.3.0.ref_ptr.0 in let ro : ℕ = z.0.3.0.ref_ptr.1 in let Lent : RattleType = MutRef (named 0) κ R in
    let Post : Val → SProp 𝓤 = (walk_of 𝓛 f.ended hs c).post z in
    let Run : List Val → SProp 𝓤 = λ ws. WpFn 𝓤 𝓛.H 𝓣.C 𝓣.Λ code.function ws Post in
    qed 𝓛 (((‵ (flft κ q) ⊛ ‵ ftrue) ⊛ ‵ (owns (types_at f.ended.signature.params z.0.0) z.0.3 z.0.4)) ∷ raw ((c z.0.0 z.0.3).requires z.1) ∷ []) ∵
    split ! $ split ! $ move ! (2 ∷ []) $ fsplit ! $ fsplit3 ! $ keep ! (1 ∷ 2 ∷ 4 ∷ []) $
    suffices ! (Run (vptr rb ro ∷ [])) (subst (λ (us : List Val). ent 𝓤 (Run (vptr rb ro ∷ [])) (Run (us ++ []))) (sym are.0.0) (id⊢ 𝓤 (Run (vptr rb ro ∷ [])))) $
    enter ! 𝓣.C 𝓣.Λ code.function (vptr rb ro ∷ []) Post $ alloc_all ! (λ l. pass_all ! refl ((tt, tt), tt) $
    opens ! tt Handle {h = d} rb ro (λ vs. move ! (1 ∷ []) $ handle_out ! d vs (λ ev. rewrite ! 1 (λ (ws : List Val). ‵ (cell_at full_share Handle.mir ws rb ro)) ev refl $
    either_owned 𝓛 R (record { memory = record { seal = tt } }) ! d.at d.party
    -- [the handle's word; the open borrow; obs; auth]
    (λ is none. rewrite ! 0 (λ (p : Ptr). ‵ (cell_at full_share Handle.mir (alone p ∷ []) rb ro)) is refl $
    sets ! (of_opd ! (load ! (through ! refl (fld ! refl (stop !))) (look_in ! 0 (sub ! 0 refl (whole !))))) refl (tt, record { fits = lit< tt }) $
    sets ! (of_opd ! (get ! refl)) refl (tt, record { fits = lit< tt }) $
    sets ! (bin ! (get ! refl) (lit ! tt) tt) refl (tt, tt) $
    first ! $ branches ! (get ! refl)
    (λ _. sets ! (agg ! (and_then ! (lit ! tt) (no_more !))) refl (tt, (record { fits = lit< tt }, tt)) $
    rewrite ! 0 (λ (p : Ptr). ‵ (cell_at full_share Handle.mir (alone p ∷ []) rb ro)) (sym is) refl $
    feq_i ! Ptr d.at null_ptr is $ handle_in ! d.at None $
    rewrite ! 0 (λ (s : Option R.Denot). ‵ (Handle.own_val (record { at = d.at; party = s }) (alone d.at ∷ []))) (sym none) refl $
    move ! (1 ∷ 0 ∷ []) $ closes ! tt Handle d (alone d.at ∷ []) rb ro $
    use1 𝓛 (‵ (fres γ (Handle.coded.code d))) (𝓛.names.obs-res γ (Handle.coded.code d)) $ move ! (1 ∷ []) $ drop ! $
    use0 𝓛 (‵ ((Opt.the_row Lent).own_val None (live 0 vnil ∷ []))) (none_of 𝓛 Lent) $
    returns_within ! Post refl (look_at ! 0 refl) $ free_all ! refl $ keep ! (0 ∷ 2 ∷ 1 ∷ []) $
    suffices ! _ (ends_at 𝓛 f.ended hs c z (live 0 vnil) None (tt, tt) (tt, tt)) $ nothing ! $ nothing ! $ fjoin ! $ join ! $
    nothing ! $ move ! (2 ∷ 0 ∷ []) $ join ! $ join ! $ frame ! $ says ! none $ done !)
    (λ wrong. absurd wrong))
    -- [the box; the handle's word; the open borrow; obs; auth]
    (λ b o x is some t.
    rewrite ! 1 (λ (p : Ptr). ‵ (cell_at full_share Handle.mir (alone p ∷ []) rb ro)) is refl $
    sets ! (of_opd ! (load ! (through ! refl (fld ! refl (stop !))) (look_in ! 1 (sub ! 0 refl (whole !))))) refl (tt, tt) $
    sets ! (of_opd ! (get ! refl)) refl (tt, tt) $
    sets ! (bin ! (get ! refl) (lit ! tt) (tests_null (block_ptr b o) t)) refl (tt, tt) $
    first ! $ branches ! (get ! refl) (λ wrong. absurd wrong)
    (λ _. let Ev = env code.function.locals l in
    skips ! $ exec ! 𝓣.C 𝓣.Λ Ev (after 4 code.function.body) (at_ret Ev Post) $
    first ! $ blocks ! $ sets ! (of_opd ! (get ! refl)) refl (tt, tt) $
    sets ! (of_opd ! (get ! refl)) refl (tt, tt) $ sets_last ! (addr ! (through ! refl (stop !))) refl (tt, tt) $
    exec ! 𝓣.C 𝓣.Λ Ev (after 5 code.function.body) (at_ret Ev Post) $
    sets ! (of_opd ! (get ! refl)) refl (tt, tt) $
    sets ! (agg ! (and_then ! (lit ! tt) (and_then ! (get ! refl) (no_more !)))) refl (tt, (record { fits = lit< tt }, (tt, tt))) $
    fsplit ! $ move ! (1 ∷ 2 ∷ []) $ fjoin ! $ move ! (2 ∷ 3 ∷ 4 ∷ 1 ∷ 0 ∷ []) $ group ! 5 $
    use1 𝓛 (later (exists (λ (δ : GName). ‵ (Lent.own_val (record { ref_ptr = (b, o); ghost_name = δ; now = x }) (vptr b o ∷ [])) ⊛ ‵ (flft κ q) ⊛ ‵ (follows Handle R γ δ (with_party d)))))
    (lends_Part 𝓛 Handle R (with_party d) (named 0) κ q rb ro b o γ (sem 𝓛 (Rest b o rb ro)) (back 𝓛 b o rb ro d is) (Handle.coded.code d) (Handle.coded.code d) x) $ await ! tt $ pick ! (λ δ.
    let r : MutBor R.Denot = record { ref_ptr = (b, o); ghost_name = δ; now = x } in
    split3 ! $ use1 𝓛 (‵ ((Opt.the_row Lent).own_val (Some r) (live 1 (vcons (vptr b o) vnil) ∷ []))) (Some-of 𝓛 Lent r (vptr b o)) $
    returns ! (look_at ! 0 refl) $ free_all ! refl $ keep ! (0 ∷ 1 ∷ 2 ∷ []) $
    suffices ! _ (ends_at 𝓛 f.ended hs c z (live 1 (vcons (vptr b o) vnil)) (Some r) (tt, tt) (tt, tt)) $ nothing ! $ nothing ! $ fjoin ! $ join ! $
    nothing ! $ move ! (2 ∷ 0 ∷ []) $ join ! $ join ! $ frame ! $ says ! some $ done !)))))))
